-- Words as numbers: a shift that clears, and how many bits are set.
use Rattle.std.proofs.Common.{◌≡◌, ℕ, zero, suc, ◌+◌, ◌/◌, ◌%◌, ◌^◌, ◌<◌, ◌≤◌, Option, Some, None, SomeIff, refl, sym, ap, ◌∙◌, ⊎_elim, arith, count_ones}
use Rattle.std.specs.Int.{bit_at}
use Rattle.std.proofs.lemmas.Nat.{ones_cat, mod-pow-add, pow_pos}
use Rattle.std.proofs.lemmas.Nat.Bits.{bit_at-lt}
use Rattle.std.proofs.Math.Nat.{pow-le-pow_right, div-eq_of_lt}
use Rattle.std.proofs.lemmas.Bool.{cases_lt}
use lib.Count.{ones, ones_in}
use Rattle.std.specs.Option.{unwrap_or}

-- a shift that clears the word where it is as long as the word
pub shr_or_none : (word places : ℕ) (o : Option ℕ) → word < 2 ^ 64 → SomeIff o (places < 64) (word / 2 ^ places) → unwrap_or o 0 ≡ word / 2 ^ places
shr_or_none word places None h f =
    let long : 2 ^ 64 ≤ 2 ^ places =
    ⊎_elim (λ (lt : places < 64). absurd (f lt)) (λ (ge : 64 ≤ places). pow-le-pow_right {n = 2} (let q : 0 < 2 = omega arith in q) ge) (cases_lt places 64) in
    let short : word < 2 ^ places = omega arith in
    sym (div-eq_of_lt short)
shr_or_none word places (Some x) h f = f.1

pub count_ones-zero : count_ones 0 ≡ 0
unfolding ones ones_in
count_ones-zero = refl

count_ones-bit : (b : ℕ) → b < 2 → count_ones b ≡ b
unfolding ones ones_in
count_ones-bit zero h = refl
count_ones-bit (suc zero) h = refl
count_ones-bit (suc (suc b)) h = absurd (omega arith)

-- one bit more
pub count_ones-mod : (word m : ℕ) → count_ones (word % 2 ^ suc m) ≡ bit_at word m + count_ones (word % 2 ^ m)
count_ones-mod word m =
    let e : suc m ≡ 1 + m = omega arith in
    let low : word % 2 ^ m < 2 ^ m = omega (arith, pow_pos m) in
    ap (λ k. count_ones (word % 2 ^ k)) e
    ∙ ap count_ones (mod-pow-add word 1 m)
    ∙ ones_cat m (bit_at word m) (word % 2 ^ m) low
    ∙ ap (λ x. x + count_ones (word % 2 ^ m)) (count_ones-bit (bit_at word m) (bit_at-lt word m))
