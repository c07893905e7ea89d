use Rattle.std.proofs.Common.{length, ap, ◌∙◌, subst, arith}
use Rattle.lapi_window.specs.SendWindow.{Sending, IsSending}
use Rattle.lapi_window.proofs.SendLaws.{unacked-list, unacked-bounded}
use Rattle.lapi_window.proofs.send_window.SendWindow.unacked_len.Goals as goal

pub returns-clause-count : goal.returns-clause-count
returns-clause-count c =
    let h : IsSending c.args.self.now c.self.inside.packets.capacity = subst (λ (s : Sending). IsSending s c.self.inside.packets.capacity) c.self.view_is c.self.invariant in
    c.absent_count.ensures ∙ ap length (unacked-list c.args.self.now c.self.inside.packets.capacity c.sent_end.result c.self.inside.acked h c.sent_end.ensures (ap (λ (s : Sending). s.acked) c.self.view_is))

pub returns-clause-bounded : goal.returns-clause-bounded
returns-clause-bounded c =
    let h : IsSending c.args.self.now c.self.inside.packets.capacity = subst (λ (s : Sending). IsSending s c.self.inside.packets.capacity) c.self.view_is c.self.invariant in
    let count = returns-clause-count c in
    let le = unacked-bounded c.args.self.now c.self.inside.packets.capacity h in
    (omega (arith, count, le), h.size.1)
