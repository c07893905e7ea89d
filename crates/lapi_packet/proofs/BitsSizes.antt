-- The size of an acknowledgement's bits, by the layout's number.
use Rattle.std.proofs.Common.{◌≡◌, ℕ, ◌≤◌, ◌==◌, true, false, cond, refl, arith}
use Rattle.lapi_base.specs.Packet.Format.{Four, Eight, byte_count}
use Rattle.lapi_base.specs.Packet.Layout.{Layout, First, Second, layout_of, bits_size}

pub bits_size_by : (n : ℕ) → bits_size (layout_of n) ≡ cond (n == 2) Eight Four
bits_size_by n = elim (n == 2) as (λ b. bits_size (cond b Second First) ≡ cond b Eight Four) [ true ↦ refl | false ↦ refl ]

pub bits-most : (l : Layout) → byte_count (bits_size l) ≤ 8
bits-most First = omega arith
bits-most Second = omega arith
