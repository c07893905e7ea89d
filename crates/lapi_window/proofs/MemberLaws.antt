-- Laws of sets of numbers as plain data: how the base moves.
use Rattle.std.proofs.Common.{◌≡◌, ℕ, ◌+◌, ◌^◌, ◌-◌, ◌<◌, ◌≤◌, ◌==◌, nat_lt, true, false, ◌||◌, sym, ap, ◌∙◌, subst, ⊎_elim, arith}
use Rattle.std.proofs.lemmas.Bool.{cases_lt, both_ways, or_left, or_right, or_cases, lt-ltb, eqb-true}
use Rattle.lapi_base.specs.Record.Below.{least_missing, has_bit, bits_of}
use Rattle.lapi_base.proofs.BelowLaws.{least_missing-is}
use Rattle.lapi_base.proofs.BitLaws.{below_pow, bits_of-is}
use Rattle.lapi_window.specs.NumberSet.{Members, flag_at, is_in}
use Rattle.lapi_window.specs.RecvWindow.{Receiving, is_taken, base_of}

pub is_in-low : (m : Members) (n : ℕ) → n < m.base → is_in m n ≡ true
unfolding is_in
is_in-low m n h = or_left (nat_lt n m.base) (flag_at m.flags (n - m.base)) (lt-ltb n m.base h)

-- a number that is absent is not below the base
pub base_le_absent : (m : Members) (n : ℕ) → is_in m n ≡ false → m.base ≤ n
base_le_absent m n h =
    ⊎_elim
    (λ (lt : n < m.base). absurd (both_ways (is_in m n) h (is_in-low m n lt)))
    (λ (ge : m.base ≤ n). ge)
    (cases_lt n m.base)

pub least_missing-base : (m : Members) (bound : ℕ) → is_in m m.base ≡ false → m.base ≤ bound → least_missing bound (λ n. is_in m n) ≡ m.base
least_missing-base m bound absent le = least_missing-is bound (λ n. is_in m n) m.base (λ k l. is_in-low m k l) absent le

-- where a set grows, its base does
pub base_grows : (m m' : Members) → is_in m' m'.base ≡ false → ((n : ℕ) → is_in m n ≡ true → is_in m' n ≡ true) → m.base ≤ m'.base
base_grows m m' absent grows =
    ⊎_elim
    (λ (lt : m'.base < m.base). absurd (both_ways (is_in m' m'.base) absent (grows m'.base (is_in-low m m'.base lt))))
    (λ (ge : m.base ≤ m'.base). ge)
    (cases_lt m'.base m.base)

-- Receiving windows.
pub receiving-base : (r : Receiving) (window b : ℕ) (taken : Members) → record { window = window; taken = taken } ≡ r → b ≡ taken.base → is_in taken b ≡ false → b < 2 ^ 32 → base_of r ≡ b
receiving-base r window b taken e at absent small =
    let there : is_in taken taken.base ≡ false = subst (λ k. is_in taken k ≡ false) at absent in
    let le : taken.base ≤ 4294967295 = omega arith in
    sym (ap base_of e) ∙ least_missing-base taken 4294967295 there le ∙ sym at

pub receiving-bits : (r : Receiving) (window word : ℕ) (taken : Members) → record { window = window; taken = taken } ≡ r → base_of r ≡ taken.base → ((i : ℕ) → has_bit word i ≡ is_in taken (taken.base + i)) → ((n : ℕ) → is_in taken n ≡ true → n < taken.base + window) → word ≡ bits_of r.window (λ i. is_taken r (base_of r + i))
receiving-bits r window word taken e =
    subst (λ (x : Receiving). base_of x ≡ taken.base → ((i : ℕ) → has_bit word i ≡ is_in taken (taken.base + i)) → ((n : ℕ) → is_in taken n ≡ true → n < taken.base + window) → word ≡ bits_of x.window (λ i. is_taken x (base_of x + i))) e
    (λ base same near.
    bits_of-is window word (λ i. is_in taken (base_of (record { window = window; taken = taken }) + i))
    (below_pow window word (λ i h. let l = near (taken.base + i) (sym (same i) ∙ h) in let q : i < window = omega (arith, l) in q))
    (λ i. same i ∙ ap (λ k. is_in taken (k + i)) (sym base)))

pub near-with : (old new : Members) (seq window : ℕ) → ((n : ℕ) → is_in new n ≡ ((n == seq) || is_in old n)) → is_in new new.base ≡ false → ((n : ℕ) → is_in old n ≡ true → n < old.base + window) → seq < old.base + window → (n : ℕ) → is_in new n ≡ true → n < new.base + window
near-with old new seq window set absent near here n h =
    let grows = base_grows old new absent (λ k e. set k ∙ or_right_of k e) in
    ⊎_elim
    (λ (e : (n == seq) ≡ true). let q = eqb-true n seq e in omega (arith, q, grows))
    (λ (e : is_in old n ≡ true). let q = near n e in omega (arith, q, grows))
    (or_cases (n == seq) (is_in old n) (sym (set n) ∙ h))
  where
    or_right_of : (k : ℕ) → is_in old k ≡ true → ((k == seq) || is_in old k) ≡ true
    or_right_of k e = or_right (k == seq) (is_in old k) e
