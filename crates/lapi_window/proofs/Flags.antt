-- The flags of a number are its bits.
use Rattle.std.proofs.Common.{◌≡◌, ℕ, zero, suc, ◌/◌, ◌^◌, ◌-◌, ◌<◌, nat_lt, false, ◌||◌, refl, sym, ap, subst, arith}
use Rattle.std.proofs.Math.Nat.{pow-suc}
use Rattle.lapi_base.specs.Record.Below.{has_bit}
use Rattle.lapi_base.proofs.BitLaws.{has_bit-zero}
use Rattle.lapi_window.specs.NumberSet.{flag_at, flags_of, is_in, is_covered}

-- the flag at a place is the bit there
pub flag_at-flags_of : (n bits i : ℕ) → bits < 2 ^ n → flag_at (flags_of n bits) i ≡ has_bit bits i
unfolding flag_at flags_of has_bit
flag_at-flags_of zero bits i h =
    let e : 0 ≡ bits = omega arith in subst (λ x. false ≡ has_bit x i) e (sym (has_bit-zero i))
flag_at-flags_of (suc n) bits zero h = refl
flag_at-flags_of (suc n) bits (suc i) h =
    flag_at-flags_of n (bits / 2) i (let half : bits / 2 < 2 ^ n = omega (arith, pow-suc 2 n) in half)

pub is_in-view : (base bits n : ℕ) → bits < 2 ^ 64 → is_in (record { base = base; flags = flags_of 64 bits }) n ≡ is_covered base bits n
unfolding is_in is_covered
is_in-view base bits n h = ap (λ b. nat_lt n base || b) (flag_at-flags_of 64 bits (n - base) h)
