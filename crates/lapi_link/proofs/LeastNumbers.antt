-- The least number that was not taken is that of the packets that were handed over.
use Rattle.std.proofs.Common.{◌≡◌, ℕ, ◌+◌, ◌%◌, ◌^◌, ◌<◌, true, false, List, sym, ap, ◌∙◌, subst, arith}
use Rattle.lapi_base.specs.declared.packet.Packet.{Packet}
use Rattle.lapi_base.specs.Record.Below.{least_missing, bits_of}
use Rattle.lapi_base.specs.Record.Wires.{has_number}
use Rattle.lapi_base.specs.Record.Arrived.{number_bound, least_number}
use Rattle.lapi_base.proofs.BelowLaws.{least_missing-same}
use Rattle.lapi_base.proofs.BitLaws.{bits_of-lt, bits_of-even}
use Rattle.lapi_base.proofs.PacketNumbers.{bound-above}
use Rattle.lapi_window.specs.RecvWindow.{Receiving, is_taken, base_of}

pub base-is : (w : Receiving) (ps : List Packet) → ((n : ℕ) → is_taken w n ≡ has_number ps n) → ((n : ℕ) → has_number ps n ≡ true → n < 2 ^ 22) → base_of w ≡ least_number ps
unfolding least_number
base-is w ps taken numbers =
    ap (least_missing 4294967295) (λ i n. taken n i)
    ∙ least_missing-same 4294967295 (number_bound ps) (has_number ps) (λ k h. let l = numbers k h in omega (arith, l)) (bound-above ps)

-- and so are the bits above it
pub bits-are : (w : Receiving) (ps : List Packet) (window : ℕ) → w.window ≡ window → ((n : ℕ) → is_taken w n ≡ has_number ps n) → ((n : ℕ) → has_number ps n ≡ true → n < 2 ^ 22) → bits_of w.window (λ i. is_taken w (base_of w + i)) ≡ bits_of window (λ i. has_number ps (least_number ps + i))
bits-are w ps window size taken numbers =
    ap (λ k. bits_of k (λ i. is_taken w (base_of w + i))) size
    ∙ ap (λ b. bits_of window (λ i. is_taken w (b + i))) (base-is w ps taken numbers)
    ∙ ap (bits_of window) (λ k i. taken (least_number ps + i) k)

-- they have no more bits than the window has numbers, and the lowest is clear
pub bits-fit : (w : Receiving) (base bits : ℕ) → base ≡ base_of w → bits ≡ bits_of w.window (λ i. is_taken w (base_of w + i)) → is_taken w base ≡ false → (bits < 2 ^ w.window) × (bits % 2 ≡ 0)
bits-fit w base bits at told absent =
    let set = λ (i : ℕ). is_taken w (base_of w + i) in
    let first : base_of w + 0 ≡ base = omega (arith, at) in
    (subst (λ n. n < 2 ^ w.window) (sym told) (bits_of-lt w.window set), ap (λ n. n % 2) told ∙ bits_of-even w.window set (ap (is_taken w) first ∙ absent))
