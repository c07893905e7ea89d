use Rattle.std.proofs.Common.{refl, sym, subst}
use Rattle.std.specs.Prelude.{IfOk, OnOk}
use Rattle.std.specs.Vec.{with_item}
use Rattle.lapi_base.specs.declared.reply.Reply.TheVariants as replies
use Rattle.lapi_base.specs.declared.schedule.Act.TheVariants.{Inject}
use Rattle.lapi_base.specs.Packet.Spelling.{refusal}
use Rattle.lapi_base.specs.Record.WorldView.{performed}
use Rattle.lapi_handlers.specs.Handlers.{rules_of}
use Rattle.lapi_world.specs.Grows.{KeepsRecord, Answers}
use Rattle.lapi_world.proofs.Refusing.{performed-inject, refused-replies, refused-stands, same-tasks}
use Rattle.lapi_world.proofs.network.Network.inject.Goals as goal

pub returns-clause-ok : goal.returns-clause-ok
returns-clause-ok g c =
    let script = c.args.script.now in
    let rules = rules_of c.args.handlers.now in
    let act = Inject c.args.a c.args.b c.args.bytes.now in
    let after = record c.args.self.now { tasks = with_item c.args.self.now.tasks c.args.b c.refuse.new.task } in
    subst (λ result. OnOk result (KeepsRecord script rules act c.args.self.now after)) (sym c.refuse.ensures.0)
    (λ r is h.
    refused-stands script rules r (performed script rules r act) (replies.Bad (refusal c.args.bytes.now)) (performed-inject script rules r c.args.a c.args.b c.args.bytes.now)
    c.args.self.now after h refl refl (same-tasks c.args.self.now.tasks.items c.args.b c.index_mut.result.now c.refuse.new.task c.index_mut.ensures.value c.refuse.ensures.1))

pub returns-clause-reply : goal.returns-clause-reply
returns-clause-reply g c =
    let script = c.args.script.now in
    let rules = rules_of c.args.handlers.now in
    let act = Inject c.args.a c.args.b c.args.bytes.now in
    subst (λ result. IfOk result (Answers script rules act c.args.self.now)) (sym c.refuse.ensures.0)
    (λ r is h. refused-replies script rules r (performed script rules r act) (replies.Bad (refusal c.args.bytes.now)) (performed-inject script rules r c.args.a c.args.b c.args.bytes.now))
