use Rattle.std.proofs.Common.{◌∷◌, [], sym, ◌∙◌, subst}
use Rattle.std.proofs.lemmas.List.{append-nil}
use Rattle.lapi_task.specs.Landed.{MayLeave, back_of}
use Rattle.lapi_task.proofs.Following.FollowerParts.{one-total, back-made}
use Rattle.lapi_task.proofs.task.Task.answer.Goals as goal

pub send-requires-clause-allowed : goal.send-requires-clause-allowed
send-requires-clause-allowed c =
    let span = c.args.span in
    let memory = c.args.self.now.state.memory in
    let layout = c.args.self.now.sizes.layout in
    let number = c.args.self.now.state.number in
    let made = back-made layout number c.args.from c.args.name (span ∷ []) memory c.args.head span.len c.follower_packet-packet.result c.read-bytes.result.now c.follower_packet-packet.ensures (one-total span) (c.read-bytes.ensures.bytes ∙ sym (append-nil _)) in
    subst (MayLeave c.unit.result) (sym made) (subst (λ u. MayLeave u (back_of layout number c.args.from c.args.name (span ∷ []) memory c.args.head)) (sym c.unit.ensures.unit) c.requires.allowed)
