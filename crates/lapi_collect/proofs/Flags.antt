-- One flag more, one fewer, and the least one of some words.
use Rattle.std.proofs.Common.{◌≡◌, ℕ, ◌+◌, ◌-◌, ◌*◌, ◌/◌, ◌%◌, ◌^◌, ◌<◌, ◌≤◌, ◌==◌, false, not, ◌&&◌, ◌||◌, Some, List, length, get_or, sym, ap, ◌∙◌, ⊎_elim, arith, set, bit_or, bit_and}
use Rattle.std.specs.Int.{w64, bit_not, trailing_zeros}
use Rattle.std.proofs.lemmas.Nat.Bits.{bit_at-trailing_zeros}
use Rattle.std.proofs.lemmas.List.{get_or-set_same, get_or-set_other}
use Rattle.std.proofs.lemmas.Bool.{eq-eqb, ne_eqb, cases_eq, cases_lt}
use Rattle.lapi_base.specs.Record.Below.{has_bit}
use Rattle.lapi_base.proofs.BitLaws.{has_bit-clear, has_bit-false, has_bit-set, has_bit-true, has_bit-zero}
use Rattle.lapi_collect.specs.FlagWords.{is_in, IsLeastBetween}

-- in one word, numbers are told apart by their bits
same_word : (k n : ℕ) → k / 64 ≡ n / 64 → (k % 64 == n % 64) ≡ (k == n)
same_word k n e =
    ⊎_elim
    (λ (same : k ≡ n). eq-eqb (k % 64) (n % 64) (ap (λ x. x % 64) same) ∙ sym (eq-eqb k n same))
    (λ (ne : k ≡ n → ⊥). ne_eqb (k % 64) (n % 64) (λ r. ne (omega arith)) ∙ sym (ne_eqb k n ne))
    (cases_eq k n)

other_word : (k n : ℕ) → (k / 64 ≡ n / 64 → ⊥) → (k == n) ≡ false
other_word k n ne = ne_eqb k n (λ e. ne (ap (λ x. x / 64) e))

pub inserted : (words : List ℕ) (n : ℕ) → n / 64 < length words → (k : ℕ) → is_in (set words (n / 64) (bit_or (get_or words (n / 64) 0) (1 * 2 ^ (n % 64) % 2 ^ 64))) k ≡ (k == n || is_in words k)
unfolding is_in
inserted words n within k =
    let word = bit_or (get_or words (n / 64) 0) (1 * 2 ^ (n % 64) % 2 ^ 64) in
    ⊎_elim
    (λ (e : k / 64 ≡ n / 64).
    ap (λ i. has_bit (get_or (set words (n / 64) word) i 0) (k % 64)) e
    ∙ ap (λ w. has_bit w (k % 64)) (get_or-set_same words (n / 64) word 0 within)
    ∙ has_bit-set w64 (get_or words (n / 64) 0) (n % 64) (k % 64) (let q : n % 64 < 64 = omega arith in q)
    ∙ ap (λ b. b || has_bit (get_or words (n / 64) 0) (k % 64)) (same_word k n e)
    ∙ ap (λ i. (k == n) || has_bit (get_or words i 0) (k % 64)) (sym e))
    (λ (ne : k / 64 ≡ n / 64 → ⊥).
    ap (λ w. has_bit w (k % 64)) (get_or-set_other words (n / 64) (k / 64) word 0 ne)
    ∙ sym (ap (λ b. b || has_bit (get_or words (k / 64) 0) (k % 64)) (other_word k n ne)))
    (cases_eq (k / 64) (n / 64))

pub removed : (words : List ℕ) (n : ℕ) → n / 64 < length words → (k : ℕ) → is_in (set words (n / 64) (bit_and (get_or words (n / 64) 0) (bit_not w64 (1 * 2 ^ (n % 64) % 2 ^ 64)))) k ≡ (not (k == n) && is_in words k)
unfolding is_in
removed words n within k =
    let word = bit_and (get_or words (n / 64) 0) (bit_not w64 (1 * 2 ^ (n % 64) % 2 ^ 64)) in
    ⊎_elim
    (λ (e : k / 64 ≡ n / 64).
    ap (λ i. has_bit (get_or (set words (n / 64) word) i 0) (k % 64)) e
    ∙ ap (λ w. has_bit w (k % 64)) (get_or-set_same words (n / 64) word 0 within)
    ∙ has_bit-clear w64 (get_or words (n / 64) 0) (n % 64) (k % 64) (let q : n % 64 < 64 = omega arith in q) (let q : k % 64 < 64 = omega arith in q)
    ∙ ap (λ b. not b && has_bit (get_or words (n / 64) 0) (k % 64)) (same_word k n e)
    ∙ ap (λ i. not (k == n) && has_bit (get_or words i 0) (k % 64)) (sym e))
    (λ (ne : k / 64 ≡ n / 64 → ⊥).
    ap (λ w. has_bit w (k % 64)) (get_or-set_other words (n / 64) (k / 64) word 0 ne)
    ∙ sym (ap (λ b. not b && has_bit (get_or words (k / 64) 0) (k % 64)) (other_word k n ne)))
    (cases_eq (k / 64) (n / 64))

-- the word in which a number stands
pub is_in-word : (words : List ℕ) (i n : ℕ) → 64 * i ≤ n → n < 64 * (i + 1) → is_in words n ≡ has_bit (get_or words i 0) (n - 64 * i)
unfolding is_in
is_in-word words i n low high =
    let e : n / 64 ≡ i = omega arith in
    let r : n % 64 ≡ n - 64 * i = omega arith in
    ap (λ k. has_bit (get_or words k 0) (n % 64)) e ∙ ap (has_bit (get_or words i 0)) r

pub empty_word : (words : List ℕ) (i n : ℕ) → get_or words i 0 ≡ 0 → 64 * i ≤ n → n < 64 * (i + 1) → is_in words n ≡ false
empty_word words i n e low high =
    is_in-word words i n low high ∙ ap (λ w. has_bit w (n - 64 * i)) e ∙ has_bit-zero (n - 64 * i)

pub past_empty_word : (words : List ℕ) (first i : ℕ) → ((n : ℕ) → 64 * first ≤ n → n < 64 * i → is_in words n ≡ false) → get_or words i 0 ≡ 0 → (n : ℕ) → 64 * first ≤ n → n < 64 * (i + 1) → is_in words n ≡ false
past_empty_word words first i none e n low high =
    ⊎_elim (λ (lt : n < 64 * i). none n low lt) (λ (ge : 64 * i ≤ n). empty_word words i n e ge high) (cases_lt n (64 * i))

-- the lowest bit of the first word that isn't empty
pub least_in_word : (words : List ℕ) (first end i word : ℕ) → first ≤ i → i < end → ((n : ℕ) → 64 * first ≤ n → n < 64 * i → is_in words n ≡ false) → word ≡ get_or words i 0 → 0 < word → word < 2 ^ 64 → IsLeastBetween words first end (Some (64 * i + trailing_zeros w64 word))
least_in_word words first end i word le lt none e some small =
    let low = bit_at-trailing_zeros w64 word some small in
    let inside : trailing_zeros w64 word < 64 = low.0 in
    let there : (64 * i + trailing_zeros w64 word) - 64 * i ≡ trailing_zeros w64 word = omega arith in (
      omega arith,
      omega arith,
      is_in-word words i (64 * i + trailing_zeros w64 word) (omega arith) (omega arith)
          ∙ ap (λ w. has_bit w ((64 * i + trailing_zeros w64 word) - 64 * i)) (sym e)
          ∙ ap (has_bit word) there
          ∙ has_bit-true word (trailing_zeros w64 word) low.1,
      λ n from to.
          ⊎_elim
          (λ (before : n < 64 * i). none n from before)
          (λ (here : 64 * i ≤ n).
          is_in-word words i n here (omega arith) ∙ ap (λ w. has_bit w (n - 64 * i)) (sym e) ∙ has_bit-false word (n - 64 * i) (low.2 (n - 64 * i) (omega arith)))
          (cases_lt n (64 * i)),
    )
