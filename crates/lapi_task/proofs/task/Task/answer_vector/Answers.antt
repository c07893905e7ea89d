use Rattle.std.proofs.Common.{◌≡◌, List, sym, ap, ◌∙◌, subst, length}
use Rattle.std.specs.List.{flat_map}
use Rattle.lapi_base.specs.declared.head.Head.TheVariants as heads
use Rattle.lapi_base.specs.declared.span.Span.{Span}
use Rattle.lapi_memory.specs.TaskMemory.{bytes_at}
use Rattle.lapi_vector.specs.Pieces.{Side}
use Rattle.lapi_task.specs.Landed.{MayLeave, back_of}
use Rattle.lapi_task.proofs.Following.FollowerParts.{back-made}
use Rattle.lapi_task.proofs.task.Task.answer_vector.Goals as goal

pub send-requires-clause-allowed : goal.send-requires-clause-allowed
send-requires-clause-allowed c =
    let memory = c.args.self.now.state.memory in
    let layout = c.args.self.now.sizes.layout in
    let number = c.args.self.now.state.number in
    let pieces = c.args.pieces.now in
    let bytes = c.as_slice-bytes.result.now in
    let picked = λ (ps : List Span). flat_map (λ (p : Span). bytes_at memory p.at p.len) ps in
    let same : bytes ≡ picked pieces = c.as_slice-bytes.ensures ∙ c.in_ok-bytes.ensures.pieces ∙ ap (λ (s : Side). picked s.spans) c.list-pieces.ensures.side ∙ ap picked c.in_ok-same_spans-2.ensures in
    let back = λ (dest : List Span). back_of layout number c.args.from c.args.name pieces memory (heads.GetvBack c.args.org dest) in
    let made = back-made layout number c.args.from c.args.name pieces memory (heads.GetvBack c.args.org c.in_ok-same_spans.field-0) (length bytes) c.follower_packet-packet.result bytes c.follower_packet-packet.ensures (ap length same ∙ c.requires.allowed.size) same ∙ ap back c.in_ok-same_spans.ensures in
    subst (MayLeave c.unit.result) (sym made) (subst (λ u. MayLeave u (back c.args.dest.now)) (sym c.unit.ensures.unit) c.requires.allowed)
