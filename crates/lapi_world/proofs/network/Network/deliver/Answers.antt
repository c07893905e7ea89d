use Rattle.std.proofs.Common.{refl, sym}
use Rattle.lapi_base.specs.declared.schedule.Act.TheVariants.{Deliver}
use Rattle.lapi_base.specs.Record.Acts as records
use Rattle.lapi_world.proofs.Acts.{task-read, performed-deliver, act-stands, outcome-ends}
use Rattle.lapi_world.proofs.Delivering.{absent-stands, absent-replies, entry-spells, may-come, did-replies}
use Rattle.lapi_handlers.specs.Handlers.{rules_of}
use Rattle.lapi_world.proofs.network.Network.deliver.Goals as goal

pub returns-in_default-clause-ok : goal.returns-in_default-clause-ok
returns-in_default-clause-ok g c = λ r is h.
    absent-stands c.args.script.now (rules_of c.args.handlers.now) c.args.self.now r c.args.a c.args.b c.args.k c.place.result c.index-wire.result.now h c.requires.tasks.0 c.requires.tasks.1 c.place.ensures c.index-wire.ensures (sym c.in_default.ensures)

pub returns-in_default-clause-reply : goal.returns-in_default-clause-reply
returns-in_default-clause-reply g c = λ r is h.
    absent-replies c.args.script.now (rules_of c.args.handlers.now) c.args.self.now r c.args.a c.args.b c.args.k c.place.result c.index-wire.result.now h c.requires.tasks.0 c.requires.tasks.1 c.place.ensures c.index-wire.ensures (sym c.in_default.ensures)

pub receive-requires-clause-stands : goal.receive-requires-clause-stands
receive-requires-clause-stands g c = λ p spells.
    let script = c.args.script.now in
    let rules = rules_of c.args.handlers.now in
    let s = c.requires.stands in
    (script, rules, c.args.b, s.0, task-read script rules s.0 c.args.b c.args.self.now c.index_mut-task.result.now s.1 s.2 c.requires.tasks.1 c.index_mut-task.ensures.value)

pub receive-requires-clause-may : goal.receive-requires-clause-may
receive-requires-clause-may g c =
    let s = c.requires.stands in
    may-come c.args.script.now (rules_of c.args.handlers.now) c.args.self.now s.0 c.args.a c.args.b c.args.k c.place.result c.index-wire.result.now s.2 c.requires.tasks.0 c.requires.tasks.1 c.place.ensures c.index-wire.ensures c.wires_may_come.ensures c.requires.script s.1 c.in-Some.entry.now (sym c.in-Some.ensures) c.index_mut-task.result.now c.index_mut-task.ensures.value

pub add-requires-clause-ends : goal.add-requires-clause-ends
add-requires-clause-ends g c =
    let script = c.args.script.now in
    let s = c.requires.stands in
    let entry = entry-spells script (rules_of c.args.handlers.now) c.args.self.now s.0 c.args.a c.args.b c.args.k c.place.result c.index-wire.result.now s.2 c.requires.tasks.0 c.requires.tasks.1 c.place.ensures c.index-wire.ensures c.requires.script s.1 c.in-Some.entry.now (sym c.in-Some.ensures) in
    let at = task-read script (rules_of c.args.handlers.now) s.0 c.args.b c.args.self.now c.index_mut-task.result.now s.1 s.2 c.requires.tasks.1 c.index_mut-task.ensures.value in
    outcome-ends script (rules_of c.args.handlers.now) c.args.b s.0 (records.deliver script (rules_of c.args.handlers.now) s.0 c.args.a c.args.b c.args.k) c.receive.new.self c.new-out.result _ (c.in_ok-receive.ensures.effect script c.args.b c.args.k s.0 entry.0 at c.requires.tasks.0 entry.2 entry.1) c.new-out.ensures

pub returns-clause-ok : goal.returns-clause-ok
returns-clause-ok g c = λ r is h.
    let script = c.args.script.now in
    let entry = entry-spells script (rules_of c.args.handlers.now) c.args.self.now r c.args.a c.args.b c.args.k c.place.result c.index-wire.result.now h c.requires.tasks.0 c.requires.tasks.1 c.place.ensures c.index-wire.ensures c.requires.script is c.in-Some.entry.now (sym c.in-Some.ensures) in
    let at = task-read script (rules_of c.args.handlers.now) r c.args.b c.args.self.now c.index_mut-task.result.now is h c.requires.tasks.1 c.index_mut-task.ensures.value in
    act-stands script (rules_of c.args.handlers.now) c.add.ensures.apart c.requires.script r is (Deliver c.args.a c.args.b c.args.k) (c.requires.tasks.0, c.requires.tasks.1, c.ranges.k.fits) c.args.b refl c.requires.tasks.1 c.args.self.now _ c.add.new.self c.receive.new.self c.new-out.result _ (records.deliver script (rules_of c.args.handlers.now) r c.args.a c.args.b c.args.k) (performed-deliver script (rules_of c.args.handlers.now) r c.args.a c.args.b c.args.k) h (c.in_ok-receive.ensures.effect script c.args.b c.args.k r entry.0 at c.requires.tasks.0 entry.2 entry.1) c.in_ok-add.ensures.ok c.new-out.ensures refl refl c.in_ok-add.ensures.tasks

pub returns-clause-reply : goal.returns-clause-reply
returns-clause-reply g c = λ r is h.
    let script = c.args.script.now in
    let entry = entry-spells script (rules_of c.args.handlers.now) c.args.self.now r c.args.a c.args.b c.args.k c.place.result c.index-wire.result.now h c.requires.tasks.0 c.requires.tasks.1 c.place.ensures c.index-wire.ensures c.requires.script is c.in-Some.entry.now (sym c.in-Some.ensures) in
    did-replies script (rules_of c.args.handlers.now) r c.args.a c.args.b c.args.k entry.0 entry.1
