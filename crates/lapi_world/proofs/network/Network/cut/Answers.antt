use Rattle.std.proofs.Common.{Ok, refl, sym, ap, ◌∙◌, subst}
use Rattle.std.specs.Prelude.{IfOk, OnOk}
use Rattle.std.specs.Vec.{with_item}
use Rattle.lapi_base.specs.declared.reply.Reply.TheVariants as replies
use Rattle.lapi_base.specs.declared.schedule.Act.TheVariants.{Cut}
use Rattle.lapi_base.specs.Record.WorldView.{performed}
use Rattle.lapi_handlers.specs.Handlers.{rules_of}
use Rattle.lapi_world.specs.Grows.{KeepsRecord, Answers}
use Rattle.lapi_world.proofs.Delivering.{entry-spells, none-there}
use Rattle.lapi_world.proofs.Refusing.{cut-none, cut-past, cut-within, front-of, refused-replies, refused-stands, same-tasks}
use Rattle.lapi_world.proofs.network.Network.cut.Goals as goal

pub returns-in_default-clause-ok : goal.returns-in_default-clause-ok
returns-in_default-clause-ok g c = λ r is h.
    let script = c.args.script.now in
    let rules = rules_of c.args.handlers.now in
    refused-stands script rules r (performed script rules r (Cut c.args.a c.args.b c.args.k c.args.n)) replies.Absent
    (cut-none script rules r c.args.a c.args.b c.args.k c.args.n (none-there script rules c.args.self.now r c.args.a c.args.b c.args.k c.place.result c.index-wire.result.now h c.requires.tasks.0 c.requires.tasks.1 c.place.ensures c.index-wire.ensures (sym c.in_default.ensures)))
    c.args.self.now c.args.self.now h refl refl refl

pub returns-in_default-clause-reply : goal.returns-in_default-clause-reply
returns-in_default-clause-reply g c = λ r is h.
    let script = c.args.script.now in
    let rules = rules_of c.args.handlers.now in
    refused-replies script rules r (performed script rules r (Cut c.args.a c.args.b c.args.k c.args.n)) replies.Absent
    (cut-none script rules r c.args.a c.args.b c.args.k c.args.n (none-there script rules c.args.self.now r c.args.a c.args.b c.args.k c.place.result c.index-wire.result.now h c.requires.tasks.0 c.requires.tasks.1 c.place.ensures c.index-wire.ensures (sym c.in_default.ensures)))

pub returns-then-n-entry-clause-ok : goal.returns-then-n-entry-clause-ok
returns-then-n-entry-clause-ok g c = λ r is h.
    let script = c.args.script.now in
    let rules = rules_of c.args.handlers.now in
    let entry = entry-spells script rules c.args.self.now r c.args.a c.args.b c.args.k c.place.result c.index-wire.result.now h c.requires.tasks.0 c.requires.tasks.1 c.place.ensures c.index-wire.ensures c.requires.script is c.in-Some.entry.now (sym c.in-Some.ensures) in
    refused-stands script rules r (performed script rules r (Cut c.args.a c.args.b c.args.k c.args.n)) replies.Absent
    (cut-past script rules r c.args.a c.args.b c.args.k c.args.n entry.0 c.in-Some.entry.now entry.1 entry.2 c.if-n-entry.true)
    c.args.self.now c.args.self.now h refl refl refl

pub returns-then-n-entry-clause-reply : goal.returns-then-n-entry-clause-reply
returns-then-n-entry-clause-reply g c = λ r is h.
    let script = c.args.script.now in
    let rules = rules_of c.args.handlers.now in
    let entry = entry-spells script rules c.args.self.now r c.args.a c.args.b c.args.k c.place.result c.index-wire.result.now h c.requires.tasks.0 c.requires.tasks.1 c.place.ensures c.index-wire.ensures c.requires.script is c.in-Some.entry.now (sym c.in-Some.ensures) in
    refused-replies script rules r (performed script rules r (Cut c.args.a c.args.b c.args.k c.args.n)) replies.Absent
    (cut-past script rules r c.args.a c.args.b c.args.k c.args.n entry.0 c.in-Some.entry.now entry.1 entry.2 c.if-n-entry.true)

pub refuse-requires : goal.refuse-requires
refuse-requires g c =
    let s = c.requires.stands in
    let entry = entry-spells c.args.script.now (rules_of c.args.handlers.now) c.args.self.now s.0 c.args.a c.args.b c.args.k c.place.result c.index-wire.result.now s.2 c.requires.tasks.0 c.requires.tasks.1 c.place.ensures c.index-wire.ensures c.requires.script s.1 c.in-Some.entry.now (sym c.in-Some.ensures) in
    (front-of c.spelling_laws.ensures.cut entry.0 c.in-Some.entry.now c.split_at.result.0.now c.args.n entry.2 c.if-n-entry.false c.split_at.ensures.front).0

pub returns-clause-ok : goal.returns-clause-ok
returns-clause-ok g c =
    let script = c.args.script.now in
    let rules = rules_of c.args.handlers.now in
    let act = Cut c.args.a c.args.b c.args.k c.args.n in
    let after = record c.args.self.now { tasks = with_item c.args.self.now.tasks c.args.b c.refuse.new.task } in
    subst (λ result. OnOk result (KeepsRecord script rules act c.args.self.now after)) (sym c.refuse.ensures.0)
    (λ r is h.
    let entry = entry-spells script rules c.args.self.now r c.args.a c.args.b c.args.k c.place.result c.index-wire.result.now h c.requires.tasks.0 c.requires.tasks.1 c.place.ensures c.index-wire.ensures c.requires.script is c.in-Some.entry.now (sym c.in-Some.ensures) in
    refused-stands script rules r (performed script rules r act) _ (cut-within script rules r c.args.a c.args.b c.args.k c.args.n entry.0 c.in-Some.entry.now entry.1 entry.2 c.if-n-entry.false)
    c.args.self.now after h refl refl (same-tasks c.args.self.now.tasks.items c.args.b c.index_mut.result.now c.refuse.new.task c.index_mut.ensures.value c.refuse.ensures.1))

pub returns-clause-reply : goal.returns-clause-reply
returns-clause-reply g c =
    let script = c.args.script.now in
    let rules = rules_of c.args.handlers.now in
    let act = Cut c.args.a c.args.b c.args.k c.args.n in
    let s = c.requires.stands in
    let there = entry-spells script rules c.args.self.now s.0 c.args.a c.args.b c.args.k c.place.result c.index-wire.result.now s.2 c.requires.tasks.0 c.requires.tasks.1 c.place.ensures c.index-wire.ensures c.requires.script s.1 c.in-Some.entry.now (sym c.in-Some.ensures) in
    let fault = (front-of c.spelling_laws.ensures.cut there.0 c.in-Some.entry.now c.split_at.result.0.now c.args.n there.2 c.if-n-entry.false c.split_at.ensures.front).1 in
    subst (λ result. IfOk result (Answers script rules act c.args.self.now)) (sym (c.refuse.ensures.0 ∙ ap (λ bad. Ok (replies.Bad bad)) fault))
    (λ r is h.
    let entry = entry-spells script rules c.args.self.now r c.args.a c.args.b c.args.k c.place.result c.index-wire.result.now h c.requires.tasks.0 c.requires.tasks.1 c.place.ensures c.index-wire.ensures c.requires.script is c.in-Some.entry.now (sym c.in-Some.ensures) in
    refused-replies script rules r (performed script rules r act) _ (cut-within script rules r c.args.a c.args.b c.args.k c.args.n entry.0 c.in-Some.entry.now entry.1 entry.2 c.if-n-entry.false))
