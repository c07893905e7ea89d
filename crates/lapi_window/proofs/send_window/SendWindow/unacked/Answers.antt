use Rattle.std.proofs.Common.{ℕ, ◌-◌, ◌<◌, List, length, slice_get, option_copied, sym, ap, ◌∙◌, subst, arith}
use Rattle.circular_buffer.proofs.Places.{slice_get-some}
use Rattle.lapi_window.specs.SendWindow.{Sending, IsSending, sent_count, bytes_of}
use Rattle.lapi_window.proofs.SendLaws.{unacked-list, kept_of, some_of_copied}
use Rattle.lapi_window.proofs.send_window.SendWindow.unacked.Goals as goal

pub absent_at-number-requires : goal.absent_at-number-requires
absent_at-number-requires c =
    let h : IsSending c.args.self.now c.self.inside.packets.capacity = subst (λ (s : Sending). IsSending s c.self.inside.packets.capacity) c.self.view_is c.self.invariant in
    subst (λ (xs : List ℕ). c.args.i < length xs) (sym (unacked-list c.args.self.now c.self.inside.packets.capacity c.sent_end.result c.self.inside.acked h c.sent_end.ensures (ap (λ (s : Sending). s.acked) c.self.view_is))) c.requires

pub overflow_sub-place : goal.overflow_sub-place
overflow_sub-place c =
    let s : Sending = record { window = c.self.inside.window; numbers = c.self.inside.numbers; acked = c.self.inside.acked; packets = c.self.inside.packets.items } in
    let kept = kept_of s c.self.inside.packets.capacity c.sent_end.result c.args.i c.absent_at-number.result c.self.invariant (c.sent_end.ensures ∙ sym (ap sent_count c.self.view_is)) c.absent_at-number.ensures in
    let above = kept.above in
    let least = c.least_absent.ensures.base in
    omega (arith, above, least)

pub unwrap-requires : goal.unwrap-requires
unwrap-requires c =
    let s : Sending = record { window = c.self.inside.window; numbers = c.self.inside.numbers; acked = c.self.inside.acked; packets = c.self.inside.packets.items } in
    let kept = kept_of s c.self.inside.packets.capacity c.sent_end.result c.args.i c.absent_at-number.result c.self.invariant (c.sent_end.ensures ∙ sym (ap sent_count c.self.view_is)) c.absent_at-number.ensures in
    let inside = kept.inside in
    let least = c.least_absent.ensures.base in
    let there = slice_get-some c.self.inside.packets.items (c.absent_at-number.result - c.least_absent.result) (omega (arith, inside, least)) in
    some_of_copied c.get.result there.0 (c.get.ensures ∙ there.1)

pub returns-clause-number : goal.returns-clause-number
returns-clause-number c =
    let h : IsSending c.args.self.now c.self.inside.packets.capacity = subst (λ (s : Sending). IsSending s c.self.inside.packets.capacity) c.self.view_is c.self.invariant in
    sym (ap (λ (xs : List ℕ). slice_get xs c.args.i) (unacked-list c.args.self.now c.self.inside.packets.capacity c.sent_end.result c.self.inside.acked h c.sent_end.ensures (ap (λ (s : Sending). s.acked) c.self.view_is))) ∙ c.absent_at-number.ensures

pub returns-clause-bytes : goal.returns-clause-bytes
returns-clause-bytes c =
    let s : Sending = record { window = c.self.inside.window; numbers = c.self.inside.numbers; acked = c.self.inside.acked; packets = c.self.inside.packets.items } in
    let kept = kept_of s c.self.inside.packets.capacity c.sent_end.result c.args.i c.absent_at-number.result c.self.invariant (c.sent_end.ensures ∙ sym (ap sent_count c.self.view_is)) c.absent_at-number.ensures in
    sym (ap (λ (x : Sending). bytes_of x c.absent_at-number.result) c.self.view_is)
    ∙ kept.bytes
    ∙ ap (λ k. slice_get c.self.inside.packets.items (c.absent_at-number.result - k)) (sym c.least_absent.ensures.base)
    ∙ sym c.get.ensures
    ∙ ap option_copied c.unwrap.ensures

pub returns-clause-place : goal.returns-clause-place
returns-clause-place c =
    let s : Sending = record { window = c.self.inside.window; numbers = c.self.inside.numbers; acked = c.self.inside.acked; packets = c.self.inside.packets.items } in
    let kept = kept_of s c.self.inside.packets.capacity c.sent_end.result c.args.i c.absent_at-number.result c.self.invariant (c.sent_end.ensures ∙ sym (ap sent_count c.self.view_is)) c.absent_at-number.ensures in
    let above = kept.above in
    let base = ap (λ (x : Sending). x.acked.base) c.self.view_is in
    omega (arith, above, base)
