-- Bits of words: which are set, after a shift and with another word, and the word of a set of numbers.
use Rattle.std.proofs.Common.{◌≡◌, ℕ, zero, suc, ◌+◌, ◌*◌, ◌/◌, ◌%◌, ◌^◌, ◌<◌, ◌≤◌, ◌==◌, true, false, not, cond, ◌||◌, refl, sym, ap, ◌∙◌, subst, ⊎_elim, arith, lit<, bit_or, max, ◌-◌, Bool, ◌&&◌, bit_and}
use Rattle.std.specs.Int.{w64, bit_at, trailing_ones, Width, bit_not}
use Rattle.std.proofs.lemmas.Nat.{shr-shr, pow_pos}
use Rattle.std.proofs.lemmas.Nat.Bits.{bit_at_lowest, bit_at-suc, bit_at-lt, bit_at_or, bit_at_above, bit_at_ones, bit_at-trailing_ones, bit_at_set_same, bit_at_set_other, bit_at-zero, same_from_bits, bit_at_clear_same, bit_at_clear_other, same_from_bits_below}
use Rattle.std.proofs.Math.Nat.{pow-suc, pow-le-pow_right}
use Rattle.std.proofs.lemmas.Bool.{eq-eqb, ne_eqb, cases_lt, cases_eq, eqb-true, cond_both, false≢true, eqb-false}
use lib.Count.{count_trailing_zeros}
use mir.Val.{bits}
use Rattle.lapi_base.specs.Record.Below.{has_bit, every_below, bits_of}
use Rattle.lapi_base.proofs.TestLaws.{same_tests}
use Rattle.lapi_base.proofs.BelowLaws.{every_below-from, every_below-at}

pub has_bit-at : (n i : ℕ) → has_bit n i ≡ (bit_at n i == 1)
unfolding has_bit
has_bit-at n zero = ap (λ x. x == 1) (sym (bit_at_lowest n))
has_bit-at n (suc i) = has_bit-at (n / 2) i ∙ ap (λ x. x == 1) (sym (bit_at-suc n i))

pub has_bit-true : (n i : ℕ) → bit_at n i ≡ 1 → has_bit n i ≡ true
has_bit-true n i e = has_bit-at n i ∙ eq-eqb (bit_at n i) 1 e

pub has_bit-false : (n i : ℕ) → bit_at n i ≡ 0 → has_bit n i ≡ false
has_bit-false n i e = has_bit-at n i ∙ ap (λ x. x == 1) e

pub has_bit-zero : (i : ℕ) → has_bit 0 i ≡ false
has_bit-zero i = has_bit-false 0 i (bit_at-zero i)

pub one_bit : (n i : ℕ) → has_bit n i ≡ true → bit_at n i ≡ 1
one_bit n i e = eqb-true (bit_at n i) 1 (sym (has_bit-at n i) ∙ e)

-- a shift to the right
pub has_bit-shr : (n k i : ℕ) → has_bit (n / 2 ^ k) i ≡ has_bit n (k + i)
has_bit-shr n k i = has_bit-at (n / 2 ^ k) i ∙ ap (λ x. x / 2 ^ i % 2 == 1) refl ∙ ap (λ x. x % 2 == 1) (shr-shr n k i) ∙ sym (has_bit-at n (k + i))

pub has_bit-above : (n k i : ℕ) → n < 2 ^ k → k ≤ i → has_bit n i ≡ false
has_bit-above n k i h l = has_bit-false n i (bit_at_above n k i h l)

or_max : (x y : ℕ) → x < 2 → y < 2 → (max x y == 1) ≡ ((x == 1) || (y == 1))
or_max zero zero a b = refl
or_max zero (suc zero) a b = refl
or_max (suc zero) zero a b = refl
or_max (suc zero) (suc zero) a b = refl
or_max zero (suc (suc y)) a b = absurd (omega arith)
or_max (suc zero) (suc (suc y)) a b = absurd (omega arith)
or_max (suc (suc x)) y a b = absurd (omega arith)

pub has_bit-or : (a b i : ℕ) → has_bit (bit_or a b) i ≡ (has_bit a i || has_bit b i)
has_bit-or a b i =
    has_bit-at (bit_or a b) i ∙ ap (λ x. x == 1) (bit_at_or a b i) ∙ or_max (bit_at a i) (bit_at b i) (bit_at-lt a i) (bit_at-lt b i) ∙ sym (ap (λ x. x || has_bit b i) (has_bit-at a i) ∙ ap (λ x. (bit_at a i == 1) || x) (has_bit-at b i))

pub has_bit-set : (w : Width) (word p i : ℕ) → p < bits w → has_bit (bit_or word (1 * 2 ^ p % 2 ^ bits w)) i ≡ ((i == p) || has_bit word i)
has_bit-set w word p i h =
    ⊎_elim
    (λ (e : i ≡ p).
    subst (λ x. has_bit (bit_or word (1 * 2 ^ p % 2 ^ bits w)) x ≡ ((x == p) || has_bit word x)) (sym e)
    (has_bit-true (bit_or word (1 * 2 ^ p % 2 ^ bits w)) p (bit_at_set_same w word p h) ∙ sym (ap (λ b. b || has_bit word p) (eq-eqb p p refl))))
    (λ (ne : i ≡ p → ⊥).
    has_bit-at (bit_or word (1 * 2 ^ p % 2 ^ bits w)) i ∙ ap (λ x. x == 1) (bit_at_set_other w word p h i ne) ∙ sym (has_bit-at word i) ∙ sym (ap (λ b. b || has_bit word i) (ne_eqb i p ne)))
    (cases_eq i p)

pub has_bit-clear : (w : Width) (word p i : ℕ) → p < bits w → i < bits w → has_bit (bit_and word (bit_not w (1 * 2 ^ p % 2 ^ bits w))) i ≡ (not (i == p) && has_bit word i)
has_bit-clear w word p i h l =
    ⊎_elim
    (λ (e : i ≡ p).
    subst (λ x. has_bit (bit_and word (bit_not w (1 * 2 ^ p % 2 ^ bits w))) x ≡ (not (x == p) && has_bit word x)) (sym e)
    (has_bit-false (bit_and word (bit_not w (1 * 2 ^ p % 2 ^ bits w))) p (bit_at_clear_same w word p h) ∙ sym (ap (λ b. not b && has_bit word p) (eq-eqb p p refl))))
    (λ (ne : i ≡ p → ⊥).
    has_bit-at (bit_and word (bit_not w (1 * 2 ^ p % 2 ^ bits w))) i ∙ ap (λ x. x == 1) (bit_at_clear_other w word p h i l ne) ∙ sym (has_bit-at word i) ∙ sym (ap (λ b. not b && has_bit word i) (ne_eqb i p ne)))
    (cases_eq i p)

-- a number is a run of ones exactly where each bit is set
pub all_bits : (n word : ℕ) → word < 2 ^ n → (word == 2 ^ n - 1) ≡ every_below n (has_bit word)
all_bits n word h =
    same_tests (word == 2 ^ n - 1) (every_below n (has_bit word))
    (λ e. every_below-from n (has_bit word) (λ k l. has_bit-true word k (ap (λ x. bit_at x k) (eqb-true word (2 ^ n - 1) e) ∙ bit_at_ones n k l)))
    (λ e.
    eq-eqb word (2 ^ n - 1)
    (same_from_bits_below n word (2 ^ n - 1) h (omega (arith, pow_pos n)) (λ k l. one_bit word k (every_below-at n (has_bit word) k e l) ∙ sym (bit_at_ones n k l))))

pub no_bit : (n i : ℕ) → (has_bit n i ≡ true → ⊥) → bit_at n i ≡ 0
no_bit n i h =
    ⊎_elim
    (λ (e : bit_at n i ≡ 1). absurd (h (has_bit-true n i e)))
    (λ (ne : bit_at n i ≡ 1 → ⊥). let l = bit_at-lt n i in let q : bit_at n i ≡ 0 = omega (arith, l, ne) in q)
    (cases_eq (bit_at n i) 1)

-- a word whose set bits are all below m is below 2 ^ m
pub below_pow : (m n : ℕ) → ((i : ℕ) → has_bit n i ≡ true → i < m) → n < 2 ^ m
unfolding has_bit
below_pow zero n h =
    let e : n ≡ 0 = same_from_bits n 0 (λ i. no_bit n i (λ t. let l = h i t in omega (arith, l)) ∙ sym (bit_at-zero i)) in
    omega arith
below_pow (suc m) n h =
    let half = below_pow m (n / 2) (λ i e. let l = h (suc i) e in let q : i < m = omega (arith, l) in q) in
    omega (arith, half, pow-suc 2 m)

pub bit_or_clear : (word m : ℕ) → cond (not (has_bit word m)) 1 0 + bit_at word m ≡ 1
bit_or_clear word m =
    ⊎_elim
    (λ (e : bit_at word m ≡ 1).
    let n = ap (λ b. cond {A = ℕ} (not b) 1 0) (has_bit-true word m e) in
    omega (arith, n, e))
    (λ (ne : bit_at word m ≡ 1 → ⊥).
    let z : bit_at word m ≡ 0 = (let l = bit_at-lt word m in omega (arith, l, ne)) in
    let n = ap (λ b. cond {A = ℕ} (not b) 1 0) (has_bit-false word m z) in
    omega (arith, n, z))
    (cases_eq (bit_at word m) 1)

-- the low bits are set up to the first one that is clear
pub record IsRun (word t : ℕ) : Type 0 where
  pub within : t ≤ 64
  pub set : (i : ℕ) → i < t → has_bit word i ≡ true
  pub clear : has_bit word t ≡ false

no_ones : (k : ℕ) → count_trailing_zeros k 0 ≡ k
unfolding count_trailing_zeros
no_ones zero = refl
no_ones (suc k) = ap suc (no_ones k)

whole_run : IsRun 18446744073709551615 (trailing_ones w64 18446744073709551615)
whole_run =
    let all : trailing_ones w64 18446744073709551615 ≡ 64 = no_ones 64 in
    let run : IsRun 18446744073709551615 64 = record {
      within = omega arith;
      set = λ i l. has_bit-true 18446744073709551615 i (bit_at_ones 64 i l);
      clear = has_bit-above 18446744073709551615 64 64 (lit< tt) (omega arith);
    } in
    subst (λ t. IsRun 18446744073709551615 t) (sym all) run

pub run_of : (word : ℕ) → word < 2 ^ 64 → IsRun word (trailing_ones w64 word)
run_of word h =
    ⊎_elim
    (λ (lt : word < 18446744073709551615).
    let r = bit_at-trailing_ones w64 word (let q : word + 1 < 2 ^ 64 = omega arith in q) in
    record {
      within = (let below : trailing_ones w64 word < 64 = r.0 in let q : trailing_ones w64 word ≤ 64 = omega arith in q);
      set = λ i l. has_bit-true word i (r.2 i l);
      clear = has_bit-false word (trailing_ones w64 word) r.1;
    })
    (λ (ge : 18446744073709551615 ≤ word).
    let e : 18446744073709551615 ≡ word = omega arith in
    subst (λ x. IsRun x (trailing_ones w64 x)) e whole_run)
    (cases_lt word 18446744073709551615)

-- the lowest bit as a number
pub low_bit : (n : ℕ) → cond (n % 2 == 1) 1 0 ≡ n % 2
low_bit n =
    cond_both (n % 2 == 1) 1 0 (λ x. x ≡ n % 2) (λ e. sym (eqb-true (n % 2) 1 e)) (λ e. let ne = eqb-false (n % 2) 1 e in let r : 0 ≡ n % 2 = omega (arith, ne) in r)

pub bits_of-is : (w word : ℕ) (p : ℕ → Bool) → word < 2 ^ w → ((i : ℕ) → has_bit word i ≡ p i) → word ≡ bits_of w p
unfolding bits_of has_bit
bits_of-is zero word p h same = omega arith
bits_of-is (suc w) word p h same =
    let half : word / 2 < 2 ^ w = omega (arith, pow-suc 2 w) in
    let rest = bits_of-is w (word / 2) (λ i. p (suc i)) half (λ i. same (suc i)) in
    let low = ap (λ b. cond {A = ℕ} b 1 0) (sym (same 0)) ∙ low_bit word in
    omega (arith, rest, low)

pub bits_of-lt : (w : ℕ) (p : ℕ → Bool) → bits_of w p < 2 ^ w
unfolding bits_of
bits_of-lt zero p = omega arith
bits_of-lt (suc w) p =
    let rest = bits_of-lt w (λ i. p (suc i)) in
    let low = cond_both {A = ℕ} (p 0) 1 0 (λ x. x ≤ 1) (λ _. omega arith) (λ _. omega arith) in
    omega (arith, rest, low, pow-suc 2 w)

pub bits_of-small : (w : ℕ) (p : ℕ → Bool) → w ≤ 32 → bits_of w p < 2 ^ 32
bits_of-small w p h =
    let lt = bits_of-lt w p in
    let le = pow-le-pow_right {n = 2} (let q : 0 < 2 = omega arith in q) h in
    omega (arith, lt, le)

pub bits_of-even : (n : ℕ) (p : ℕ → Bool) → p 0 ≡ false → bits_of n p % 2 ≡ 0
unfolding bits_of
bits_of-even zero p h = refl
bits_of-even (suc n) p h = subst (λ (b : Bool). (cond b 1 0 + 2 * bits_of n (λ i. p (suc i))) % 2 ≡ 0) (sym h) (let x = bits_of n (λ i. p (suc i)) in let e : (0 + 2 * x) % 2 ≡ 0 = omega arith in e)

bit_low : (b : Bool) (n : ℕ) → ((cond b 1 0 + 2 * n) % 2 == 1) ≡ b
bit_low true n = eq-eqb _ 1 (let e : (1 + 2 * n) % 2 ≡ 1 = omega arith in e)
bit_low false n = let e : (0 + 2 * n) % 2 ≡ 0 = omega arith in ap (λ x. x == 1) e

bit_high : (b : Bool) (n : ℕ) → (cond b 1 0 + 2 * n) / 2 ≡ n
bit_high true n = omega arith
bit_high false n = omega arith

pub has_bit-of : (n : ℕ) (p : ℕ → Bool) (i : ℕ) → has_bit (bits_of n p) i ≡ true → (i < n) × (p i ≡ true)
unfolding has_bit bits_of
has_bit-of zero p zero h = absurd (false≢true h)
has_bit-of zero p (suc i) h = absurd (let r = has_bit-of zero p i h in omega (arith, r.0))
has_bit-of (suc n) p zero h = (omega arith, sym (bit_low (p 0) (bits_of n (λ i. p (suc i)))) ∙ h)
has_bit-of (suc n) p (suc i) h =
    let r = has_bit-of n (λ j. p (suc j)) i (subst (λ x. has_bit x i ≡ true) (bit_high (p 0) (bits_of n (λ j. p (suc j)))) h) in
    (omega (arith, r.0), r.1)

pub has_bit-from : (n : ℕ) (p : ℕ → Bool) (i : ℕ) → i < n → p i ≡ true → has_bit (bits_of n p) i ≡ true
unfolding has_bit bits_of
has_bit-from zero p i l h = absurd (omega arith)
has_bit-from (suc n) p zero l h = bit_low (p 0) (bits_of n (λ i. p (suc i))) ∙ h
has_bit-from (suc n) p (suc i) l h =
    subst (λ x. has_bit x i ≡ true) (sym (bit_high (p 0) (bits_of n (λ j. p (suc j)))))
    (has_bit-from n (λ j. p (suc j)) i (let q : i < n = omega arith in q) h)
