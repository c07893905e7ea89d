-- What a base and a word cover, and how a set of numbers is made of them.
use Rattle.std.proofs.Common.{◌≡◌, ℕ, zero, suc, ◌+◌, ◌*◌, ◌/◌, ◌%◌, ◌^◌, ◌-◌, ◌<◌, ◌≤◌, ◌==◌, nat_lt, true, false, not, cond, ◌||◌, length, count_ones, sym, ap, ◌∙◌, ⊎_elim, arith, bit_or, max}
use Rattle.std.specs.Int.{w64}
use Rattle.std.proofs.lemmas.Bool.{cases_lt, cases_eq, eq-eqb, ne_eqb, or_left, or_right, or_cases, both_ways, eqb-true, lt-ltb, le-ltb}
use Rattle.std.proofs.Math.Nat.{mod-eq_of_lt}
use Rattle.lapi_base.specs.Record.Below.{has_bit, below}
use Rattle.lapi_base.proofs.BelowLaws.{length-below-none, length-below-suc}
use Rattle.lapi_base.proofs.BitLaws.{IsRun, below_pow, bit_or_clear, has_bit-or, has_bit-set, has_bit-shr}
use Rattle.lapi_window.specs.NumberSet.{Members, flags_of, is_in, is_covered}
use Rattle.lapi_window.proofs.Flags.{is_in-view}
use Rattle.lapi_window.proofs.BitLaws.{count_ones-zero, count_ones-mod}

-- the value of a set that keeps this base and this word
abbrev pub members : (base word : ℕ) → Members
members base word = record { base = base; flags = flags_of 64 word }

pub is_in-of : (base word : ℕ) (m : Members) → members base word ≡ m → word < 2 ^ 64 → (n : ℕ) → is_in m n ≡ is_covered base word n
is_in-of base word m e h n = sym (ap (λ (x : Members). is_in x n) e) ∙ is_in-view base word n h

pub is_covered-low : (base word n : ℕ) → n < base → is_covered base word n ≡ true
unfolding is_covered
is_covered-low base word n h = or_left (nat_lt n base) (has_bit word (n - base)) (lt-ltb n base h)

pub is_covered-high : (base word n : ℕ) → base ≤ n → is_covered base word n ≡ has_bit word (n - base)
unfolding is_covered
is_covered-high base word n h = ap (λ b. b || has_bit word (n - base)) (le-ltb n base h)

pub is_covered-at : (base word i : ℕ) → is_covered base word (base + i) ≡ has_bit word i
is_covered-at base word i =
    let e : (base + i) - base ≡ i = omega arith in
    is_covered-high base word (base + i) (omega arith) ∙ ap (λ k. has_bit word k) e

-- the word, seen from a later start
pub is_covered-shr : (base word start n : ℕ) → base ≤ start → start ≤ n → has_bit (word / 2 ^ (start - base)) (n - start) ≡ is_covered base word n
is_covered-shr base word start n h l =
    let e : (start - base) + (n - start) ≡ n - base = omega arith in
    has_bit-shr word (start - base) (n - start) ∙ ap (λ k. has_bit word k) e ∙ sym (is_covered-high base word n (omega arith))

-- what is covered, plus one, is a u32 where the base and each number of a set bit is
pub is_covered-small : (base word n : ℕ) → base < 2 ^ 32 → ((i : ℕ) → has_bit word i ≡ true → base + i + 1 < 2 ^ 32) → is_covered base word n ≡ true → base ≤ n → n + 1 < 2 ^ 32
is_covered-small base word n b h c l =
    let r = h (n - base) (sym (is_covered-high base word n l) ∙ c) in
    omega (arith, r)

-- Settling: a run of set bits moves the base.
pub settled-fits : (start word t : ℕ) → IsRun word t → start < 2 ^ 32 → ((i : ℕ) → has_bit word i ≡ true → start + i + 1 < 2 ^ 32) → start + t < 2 ^ 32
settled-fits start word t run b h =
    ⊎_elim
    (λ (lt : 0 < t).
    let r = h (t - 1) (run.set (t - 1) (let q : t - 1 < t = omega arith in q)) in
    omega (arith, r))
    (λ (ge : t ≤ 0). omega arith)
    (cases_lt 0 t)

pub settled-clear : (word t : ℕ) → IsRun word t → has_bit (word / 2 ^ t) 0 ≡ false
settled-clear word t run =
    let e : t + 0 ≡ t = omega arith in
    has_bit-shr word t 0 ∙ ap (λ k. has_bit word k) e ∙ run.clear

pub settled-small : (start word t i : ℕ) → ((k : ℕ) → has_bit word k ≡ true → start + k + 1 < 2 ^ 32) → has_bit (word / 2 ^ t) i ≡ true → start + t + i + 1 < 2 ^ 32
settled-small start word t i h e =
    let r = h (t + i) (sym (has_bit-shr word t i) ∙ e) in
    omega (arith, r)

pub settled-covers : (start word t n : ℕ) → IsRun word t → is_covered (start + t) (word / 2 ^ t) n ≡ is_covered start word n
settled-covers start word t n run =
    ⊎_elim
    (λ (lt : n < start + t).
    is_covered-low (start + t) (word / 2 ^ t) n lt
    ∙ sym (⊎_elim
    (λ (low : n < start). is_covered-low start word n low)
    (λ (high : start ≤ n). is_covered-high start word n high ∙ run.set (n - start) (let q : n - start < t = omega arith in q))
    (cases_lt n start)))
    (λ (ge : start + t ≤ n).
    let e : (start + t) - start ≡ t = omega arith in
    is_covered-high (start + t) (word / 2 ^ t) n ge
    ∙ ap (λ k. has_bit (word / 2 ^ k) (n - (start + t))) (sym e)
    ∙ is_covered-shr start word (start + t) n (omega arith) ge)
    (cases_lt n (start + t))

-- One number more.
pub with-covers : (base word n k : ℕ) → base ≤ n → n < base + 64 → is_covered base (bit_or word (1 * 2 ^ (n - base) % 2 ^ 64)) k ≡ ((k == n) || is_covered base word k)
with-covers base word n k h l =
    let more = bit_or word (1 * 2 ^ (n - base) % 2 ^ 64) in
    ⊎_elim
    (λ (low : k < base). is_covered-low base more k low ∙ sym (or_right (k == n) (is_covered base word k) (is_covered-low base word k low)))
    (λ (high : base ≤ k).
    let place : n - base < 64 = omega arith in
    let same : ((k - base) == (n - base)) ≡ (k == n) =
    ⊎_elim
    (λ (e : k ≡ n). eq-eqb (k - base) (n - base) (ap (λ x. x - base) e) ∙ sym (eq-eqb k n e))
    (λ (ne : k ≡ n → ⊥). ne_eqb (k - base) (n - base) (λ e. ne (let q : k ≡ n = omega arith in q)) ∙ sym (ne_eqb k n ne))
    (cases_eq k n) in
    is_covered-high base more k high
    ∙ has_bit-set w64 word (n - base) (k - base) place
    ∙ ap (λ b. b || has_bit word (k - base)) same
    ∙ ap (λ b. (k == n) || b) (sym (is_covered-high base word k high)))
    (cases_lt k base)

pub with-small : (base word n i : ℕ) → base ≤ n → n < base + 64 → n + 1 < 2 ^ 32 → ((k : ℕ) → has_bit word k ≡ true → base + k + 1 < 2 ^ 32) → has_bit (bit_or word (1 * 2 ^ (n - base) % 2 ^ 64)) i ≡ true → base + i + 1 < 2 ^ 32
with-small base word n i h l small old e =
    let place : n - base < 64 = omega arith in
    let both : ((i == (n - base)) || has_bit word i) ≡ true = sym (has_bit-set w64 word (n - base) i place) ∙ e in
    ⊎_elim
    (λ (f : (i == (n - base)) ≡ true). let q = eqb-true i (n - base) f in omega (arith, q))
    (λ (f : has_bit word i ≡ true). old i f)
    (or_cases (i == (n - base)) (has_bit word i) both)

-- Two sets together, from the larger base on.
pub union-covers : (base word other bits start n : ℕ) → start ≡ max base other → is_covered start (bit_or (word / 2 ^ (start - base)) (bits / 2 ^ (start - other))) n ≡ (is_covered base word n || is_covered other bits n)
union-covers base word other bits start n s =
    let both = bit_or (word / 2 ^ (start - base)) (bits / 2 ^ (start - other)) in
    let b : base ≤ start = omega arith in
    let o : other ≤ start = omega arith in
    ⊎_elim
    (λ (low : n < start).
    is_covered-low start both n low
    ∙ sym (⊎_elim
    (λ (l : n < base). or_left (is_covered base word n) (is_covered other bits n) (is_covered-low base word n l))
    (λ (g : base ≤ n). or_right (is_covered base word n) (is_covered other bits n) (is_covered-low other bits n (let q : n < other = omega arith in q)))
    (cases_lt n base)))
    (λ (high : start ≤ n).
    is_covered-high start both n high
    ∙ has_bit-or (word / 2 ^ (start - base)) (bits / 2 ^ (start - other)) (n - start)
    ∙ ap (λ x. x || has_bit (bits / 2 ^ (start - other)) (n - start)) (is_covered-shr base word start n b high)
    ∙ ap (λ x. is_covered base word n || x) (is_covered-shr other bits start n o high))
    (cases_lt n start)

pub union-small : (base word other bits start i : ℕ) → start ≡ max base other → base < 2 ^ 32 → ((k : ℕ) → has_bit word k ≡ true → base + k + 1 < 2 ^ 32) → ((n : ℕ) → is_covered other bits n ≡ true → n + 1 < 2 ^ 32) → has_bit (bit_or (word / 2 ^ (start - base)) (bits / 2 ^ (start - other))) i ≡ true → start + i + 1 < 2 ^ 32
union-small base word other bits start i s small old new e =
    let both = bit_or (word / 2 ^ (start - base)) (bits / 2 ^ (start - other)) in
    let c = sym (union-covers base word other bits start (start + i) s) ∙ (is_covered-at start both i ∙ e) in
    let b : base ≤ start + i = omega arith in
    ⊎_elim
    (λ (f : is_covered base word (start + i) ≡ true). is_covered-small base word (start + i) small old f b)
    (λ (f : is_covered other bits (start + i) ≡ true). new (start + i) f)
    (or_cases (is_covered base word (start + i)) (is_covered other bits (start + i)) c)

-- A range of numbers, from its first place on.
pub range-covered : (base word from to t : ℕ) → IsRun (word / 2 ^ (max from base - base)) t → to - max from base ≤ t → (n : ℕ) → from ≤ n → n < to → is_covered base word n ≡ true
range-covered base word from to t run le n f l =
    let start = max from base in
    ⊎_elim
    (λ (low : n < base). is_covered-low base word n low)
    (λ (high : base ≤ n).
    let s : max from base ≤ n = omega arith in
    let b : base ≤ max from base = omega arith in
    sym (is_covered-shr base word (max from base) n b s) ∙ run.set (n - max from base) (let q : n - max from base < t = omega arith in q))
    (cases_lt n base)

pub range-short : (base word from to t : ℕ) → IsRun (word / 2 ^ (max from base - base)) t → ((n : ℕ) → from ≤ n → n < to → is_covered base word n ≡ true) → to - max from base ≤ t
range-short base word from to t run all =
    ⊎_elim
    (λ (lt : t < to - max from base).
    let b : base ≤ max from base = omega arith in
    let s : max from base ≤ max from base + t = omega arith in
    let yes = all (max from base + t) (let q : from ≤ max from base + t = omega arith in q) (let q : max from base + t < to = omega arith in q) in
    let e : (max from base + t) - max from base ≡ t = omega arith in
    let no = sym (is_covered-shr base word (max from base) (max from base + t) b s) ∙ ap (λ k. has_bit (word / 2 ^ (max from base - base)) k) e ∙ run.clear in
    absurd (both_ways (is_covered base word (max from base + t)) no yes))
    (λ (ge : to - max from base ≤ t). ge)
    (cases_lt t (to - max from base))

-- How many of the m numbers from the base on are not covered.
clear_count : (base word m : ℕ) → length (below (base + m) (λ n. not (is_covered base word n))) + count_ones (word % 2 ^ m) ≡ m
clear_count base word zero =
    let none = length-below-none (base + 0) (λ n. not (is_covered base word n)) (λ k l. ap not (is_covered-low base word k (let q : k < base = omega arith in q))) in
    let low : word % 2 ^ 0 ≡ 0 = omega arith in
    let ones : count_ones (word % 2 ^ 0) ≡ 0 = ap count_ones low ∙ count_ones-zero in
    omega (arith, none, ones)
clear_count base word (suc m) =
    let before = clear_count base word m in
    let e : base + suc m ≡ suc (base + m) = omega arith in
    let longer = ap (λ k. length (below k (λ n. not (is_covered base word n)))) e ∙ length-below-suc (base + m) (λ n. not (is_covered base word n)) in
    let bit = ap (λ b. cond {A = ℕ} (not b) 1 0) (is_covered-at base word m) in
    let ones = count_ones-mod word m in
    let one = bit_or_clear word m in
    omega (arith, before, longer, bit, ones, one)

-- the end of what is covered is not below the base
pub base_le_end : (base word end : ℕ) → ((n : ℕ) → is_covered base word n ≡ true → n < end) → base ≤ end
base_le_end base word end h =
    ⊎_elim
    (λ (lt : end < base). let r = h end (is_covered-low base word end lt) in absurd (omega (arith, r)))
    (λ (ge : base ≤ end). ge)
    (cases_lt end base)

pub uncovered_count : (base word end : ℕ) → ((n : ℕ) → is_covered base word n ≡ true → n < end) → length (below end (λ n. not (is_covered base word n))) + count_ones word ≡ end - base
uncovered_count base word end h =
    let le = base_le_end base word end h in
    let short : word < 2 ^ (end - base) = below_pow (end - base) word (λ i e. let r = h (base + i) (is_covered-at base word i ∙ e) in let q : i < end - base = omega (arith, r) in q) in
    let whole : word % 2 ^ (end - base) ≡ word = mod-eq_of_lt short in
    let last : base + (end - base) ≡ end = omega arith in
    sym (ap (λ k. length (below k (λ n. not (is_covered base word n))) + count_ones word) last)
    ∙ sym (ap (λ x. length (below (base + (end - base)) (λ n. not (is_covered base word n))) + count_ones x) whole)
    ∙ clear_count base word (end - base)

-- the lowest bit of the word, shifted to a number
pub first_bit : (base word n : ℕ) → base ≤ n → (word / 2 ^ (n - base) % 2 == 1) ≡ is_covered base word n
unfolding has_bit
first_bit base word n h =
    let e : (n - base) + 0 ≡ n - base = omega arith in
    has_bit-shr word (n - base) 0 ∙ ap (λ k. has_bit word k) e ∙ sym (is_covered-high base word n h)
