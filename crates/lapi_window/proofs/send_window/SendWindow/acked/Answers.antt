use Rattle.std.proofs.Common.{◌≡◌, ℕ, ◌+◌, ◌-◌, List, length, drop, sym, ap, ◌∙◌, subst, arith}
use Rattle.circular_buffer.specs.Buffer.{Buffer}
use Rattle.lapi_window.specs.SendWindow.{Sending, sent_count, bytes_of}
use Rattle.lapi_window.proofs.SendLaws.{acked-base, IsAcked, acked-all}
use Rattle.lapi_window.proofs.send_window.SendWindow.acked.Goals as goal

pub overflow_sub-sent : goal.overflow_sub-sent
overflow_sub-sent c =
    let same = ap sent_count c.self.view_is in
    let le =
    acked-base c.self.inside.acked c.union-self-inside.result c.args.base c.args.bits (c.self.inside.acked.base + length c.self.inside.packets.items) c.union-self-inside.ensures.set c.self.invariant.near
    (λ n e. let l = c.requires n e in omega (arith, l, same)) in
    let sent = c.sent_end-sent.ensures in
    let least = c.least_absent.ensures.base in
    omega (arith, le, same, sent, least)

-- what the window stands for at the end
acked : (c : goal.After-truncate_front) → IsAcked (record { window = c.self.inside.window; numbers = c.self.inside.numbers; acked = c.self.inside.acked; packets = c.self.inside.packets.items }) (record { window = c.self.inside.window; numbers = c.self.inside.numbers; acked = c.union-self-inside.result; packets = c.truncate_front.new.self.items }) c.truncate_front.new.self.capacity
acked c =
    let s : Sending = record { window = c.self.inside.window; numbers = c.self.inside.numbers; acked = c.self.inside.acked; packets = c.self.inside.packets.items } in
    let same = ap sent_count c.self.view_is in
    let sent = c.sent_end-sent.ensures in
    let least = c.least_absent.ensures.base in
    let left : c.sent_end-sent.result - c.least_absent.result ≡ sent_count s - c.union-self-inside.result.base = omega (arith, same, sent, least) in
    let kept =
    ap (λ (b : Buffer (List ℕ)). b.items) c.truncate_front.ensures
    ∙ ap (λ k. drop (length c.self.inside.packets.items - k) c.self.inside.packets.items) left in
    let capacity = ap (λ (b : Buffer (List ℕ)). b.capacity) c.truncate_front.ensures in
    subst (λ n. IsAcked s (record s { acked = c.union-self-inside.result; packets = c.truncate_front.new.self.items }) n) (sym capacity)
    (acked-all s c.self.inside.packets.capacity c.union-self-inside.result c.args.base c.args.bits c.truncate_front.new.self.items c.self.invariant c.union-self-inside.ensures.set c.union-self-inside.ensures.absent
    (λ n e. let l = c.requires n e in omega (arith, l, same))
    kept)

pub invariant_of-self : goal.invariant_of-self
invariant_of-self c = (acked c).sending

pub returns-clause-bytes : goal.returns-clause-bytes
returns-clause-bytes c = λ n e. (acked c).bytes n e ∙ ap (λ (s : Sending). bytes_of s n) c.self.view_is

pub returns-clause-sent : goal.returns-clause-sent
returns-clause-sent c = (acked c).sent ∙ ap sent_count c.self.view_is

pub returns-clause-base : goal.returns-clause-base
returns-clause-base c =
    let grows = (acked c).base in
    let base = ap (λ (s : Sending). s.acked.base) c.self.view_is in
    omega (arith, grows, base)
