-- The flags of a number spell that number: a set's value gives its fields back.
use Rattle.std.specs.Prelude.{◌≡◌, ℕ, zero, suc, ◌/◌, ◌^◌, ◌<◌}
use Rattle.std.proofs.Common.{arith}
use Rattle.std.proofs.Math.Nat.{pow-suc}
use Rattle.lapi_base.proofs.BitLaws.{low_bit}
use Rattle.lapi_window.specs.NumberSet.{flags_of, number_of}

-- the flags of a number spell it
pub number_of-flags_of : (n bits : ℕ) → bits < 2 ^ n → number_of (flags_of n bits) ≡ bits
unfolding number_of flags_of
number_of-flags_of zero bits h = omega arith
number_of-flags_of (suc n) bits h =
    let half : bits / 2 < 2 ^ n = omega (arith, pow-suc 2 n) in
    let e = number_of-flags_of n (bits / 2) half in
    let l = low_bit bits in
    omega (arith, e, l)
