-- Numbers as sets of bits: a part of a set, what is left without it, and both together.
use Rattle.std.proofs.Common.{◌≡◌, ℕ, ◌+◌, ◌%◌, ◌<◌, min, max, sym, ap, ◌∙◌, arith}
use Rattle.std.specs.Prelude.{bit_and, bit_or, bit_xor}
use Rattle.std.specs.Int.{bit_at}
use Rattle.std.proofs.lemmas.Nat.Bits.{bit_at-lt, bit_at_and, bit_at_or, bit_at_xor, same_from_bits}
use mathlib.Core.Logic.{dite}
use native.Mathlib.Decide.{ℕ_discrete}

-- each bit of a part is one of the whole
pub has_each : (whole part : ℕ) → bit_and whole part ≡ part → (i : ℕ) → bit_at part i ≡ 1 → bit_at whole i ≡ 1
has_each whole part within i one =
    let both : min (bit_at whole i) (bit_at part i) ≡ 1 = sym (bit_at_and whole part i) ∙ (ap (λ (n : ℕ). bit_at n i) within ∙ one) in
    let small = bit_at-lt whole i in first (bit_at whole i) (bit_at part i) small both
  where
    first : (a b : ℕ) → a < 2 → min a b ≡ 1 → a ≡ 1
    first a b small both = omega arith

-- a bit that is left once the part is taken away
pub cut_has : (whole part i : ℕ) → (bit_at part i ≡ 1 → bit_at whole i ≡ 1) → bit_at (bit_xor whole part) i ≡ 1 → (bit_at whole i ≡ 1) × (bit_at part i ≡ 0)
cut_has whole part i within one =
    let e : (bit_at whole i + bit_at part i) % 2 ≡ 1 = sym (bit_at_xor whole part i) ∙ one in
    odd (bit_at whole i) (bit_at part i) (bit_at-lt whole i) (bit_at-lt part i) within e
  where
    odd : (a b : ℕ) → a < 2 → b < 2 → (b ≡ 1 → a ≡ 1) → (a + b) % 2 ≡ 1 → (a ≡ 1) × (b ≡ 0)
    odd a b small small' within e = dite (ℕ_discrete b 1)
        (λ is. let a-is = within is in absurd (omega arith))
        (λ n. (omega arith, omega arith))

-- what is left and the part are the whole
pub whole_again : (whole part : ℕ) → bit_and whole part ≡ part → bit_or (bit_xor whole part) part ≡ whole
whole_again whole part within = same_from_bits (bit_or (bit_xor whole part) part) whole (λ i.
    let small = bit_at-lt whole i in
    let small' = bit_at-lt part i in
    bit_at_or (bit_xor whole part) part i ∙ (ap (λ (n : ℕ). max n (bit_at part i)) (bit_at_xor whole part i) ∙ again (bit_at whole i) (bit_at part i) small small' (has_each whole part within i)))
  where
    again : (a b : ℕ) → a < 2 → b < 2 → (b ≡ 1 → a ≡ 1) → max ((a + b) % 2) b ≡ a
    again a b small small' within = dite (ℕ_discrete b 1)
        (λ e. let e' = within e in omega arith)
        (λ n. omega arith)
