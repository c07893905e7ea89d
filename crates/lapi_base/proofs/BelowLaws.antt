-- Numbers below a bound: those that pass a test, whether all pass, and the least that doesn't.
use Rattle.std.proofs.Common.{◌≡◌, ℕ, zero, suc, ◌+◌, ◌<◌, ◌≤◌, ◌==◌, Bool, true, false, cond, [], ◌∷◌, ◌++◌, Some, refl, sym, ap, ◌∙◌, subst, ⊎_elim, arith, length, slice_get, length-append}
use Rattle.std.specs.Prelude.{slice_get, is_some, nat_lt, filter}
use Rattle.std.specs.List.{list_any, AllByRecursion}
use Rattle.std.proofs.lemmas.Bool.{true≢false, false≢true, and_parts, and_from, and_cases, cases_lt, cond-true, cond-false, eq-eqb, cond_both, both_ways, or_left, or_right, false_from_ne_true, lt-ltb}
use Rattle.std.proofs.lemmas.Option.{slice_get_within}
use Rattle.std.proofs.lemmas.List.Folds.{list_any-append}
use Rattle.lapi_base.specs.Record.Below.{every_below, below, least_missing}
use Rattle.lapi_base.proofs.ListLaws.{get-before, get-push, all-weaker, all-append, filter-push, filter-all}

pub every_below-at : (n : ℕ) (p : ℕ → Bool) (k : ℕ) → every_below n p ≡ true → k < n → p k ≡ true
unfolding every_below
every_below-at zero p k h l = absurd (omega arith)
every_below-at (suc n) p k h l =
    let hs = and_parts (every_below n p) (p n) h in
    ⊎_elim
    (λ (lt : k < n). every_below-at n p k hs.0 lt)
    (λ (ge : n ≤ k). let e : n ≡ k = omega arith in subst (λ x. p x ≡ true) e hs.1)
    (cases_lt k n)

pub every_below-from : (n : ℕ) (p : ℕ → Bool) → ((k : ℕ) → k < n → p k ≡ true) → every_below n p ≡ true
unfolding every_below
every_below-from zero p h = refl
every_below-from (suc n) p h =
    and_from (every_below n p) (p n) (every_below-from n p (λ k l. h k (let r : k < suc n = omega arith in r))) (h n (let r : n < suc n = omega arith in r))

pub every_below-fails : (n : ℕ) (p : ℕ → Bool) → every_below n p ≡ false → (k : ℕ) × (k < n) × (p k ≡ false)
unfolding every_below
every_below-fails zero p h = absurd (true≢false h)
every_below-fails (suc n) p h =
    ⊎_elim
    (λ (f : every_below n p ≡ false). let r = every_below-fails n p f in (r.0, omega (arith, r.1), r.2))
    (λ (f : p n ≡ false). (n, omega arith, f))
    (and_cases (every_below n p) (p n) h)

pub every_below-same : (n : ℕ) (p q : ℕ → Bool) → ((k : ℕ) → k < n → p k ≡ q k) → every_below n p ≡ every_below n q
unfolding every_below
every_below-same zero p q h = refl
every_below-same (suc n) p q h = rw (every_below-same n p q (λ k l. h k (omega arith)), h n (omega arith))

pub every-none : (p : ℕ → Bool) → every_below 0 p ≡ true
unfolding every_below
every-none p = refl

pub every-more : (n : ℕ) (p : ℕ → Bool) → every_below n p ≡ true → p n ≡ true → every_below (n + 1) p ≡ true
every-more n p h e =
    every_below-from (n + 1) p (λ k l.
    ⊎_elim
    (λ (lt : k < n). every_below-at n p k h lt)
    (λ (ge : n ≤ k). subst (λ j. p j ≡ true) (let same : n ≡ k = omega arith in same) e)
    (cases_lt k n))

-- what is below the least number that is missing passes, and that number doesn't
pub least_missing-every : (n : ℕ) (p : ℕ → Bool) → every_below (least_missing n p) p ≡ true
unfolding least_missing every_below
least_missing-every zero p = refl
least_missing-every (suc n) p =
    cond_both (every_below (suc n) p) (suc n) (least_missing n p) (λ k. every_below k p ≡ true) (λ e. e) (λ _. least_missing-every n p)

pub least_missing-le : (n : ℕ) (p : ℕ → Bool) → least_missing n p ≤ n
unfolding least_missing
least_missing-le zero p = omega arith
least_missing-le (suc n) p =
    cond_both (every_below (suc n) p) (suc n) (least_missing n p) (λ k. k ≤ suc n) (λ _. omega arith) (λ _. omega (arith, least_missing-le n p))

pub least_missing-whole : (n : ℕ) (p : ℕ → Bool) → every_below n p ≡ true → least_missing n p ≡ n
unfolding least_missing every_below
least_missing-whole zero p h = refl
least_missing-whole (suc n) p h = cond-true (every_below (suc n) p) (suc n) (least_missing n p) h

pub least_missing-not : (n : ℕ) (p : ℕ → Bool) → least_missing n p < n → p (least_missing n p) ≡ false
unfolding least_missing every_below
least_missing-not zero p l = absurd (omega arith)
least_missing-not (suc n) p l =
    elim (every_below (suc n) p) as (λ b. every_below (suc n) p ≡ b → cond b (suc n) (least_missing n p) < suc n → p (cond b (suc n) (least_missing n p)) ≡ false) [
      | true ↦ λ e l'. absurd (omega arith)
      | false ↦ λ e l'.
          ⊎_elim
          (λ (lt : least_missing n p < n). least_missing-not n p lt)
          (λ (ge : n ≤ least_missing n p).
          let all : every_below n p ≡ true = subst (λ k. every_below k p ≡ true) (let q : least_missing n p ≡ n = omega (arith, least_missing-le n p) in q) (least_missing-every n p) in
          let whole = least_missing-whole n p all in
          let no : p n ≡ false = ⊎_elim (λ (f : every_below n p ≡ false). absurd (both_ways _ f all)) (λ (f : p n ≡ false). f) (and_cases (every_below n p) (p n) e) in
          subst (λ k. p k ≡ false) (sym whole) no)
          (cases_lt (least_missing n p) n)
    ] refl l

pub least_missing-below : (n : ℕ) (p : ℕ → Bool) (k : ℕ) → k < least_missing n p → p k ≡ true
least_missing-below n p k l = every_below-at (least_missing n p) p k (least_missing-every n p) l

-- a number that is missing is not below the least one
pub least_missing-least : (n : ℕ) (p : ℕ → Bool) (k : ℕ) → p k ≡ false → least_missing n p ≤ k
least_missing-least n p k f =
    ⊎_elim
    (λ (lt : k < least_missing n p). absurd (both_ways (p k) f (least_missing-below n p k lt)))
    (λ (ge : least_missing n p ≤ k). ge)
    (cases_lt k (least_missing n p))

-- a larger set lacks a larger number, where the bound holds for what the smaller one has
pub least_missing-grows : (n m : ℕ) (p q : ℕ → Bool) → n ≤ m → ((k : ℕ) → p k ≡ true → q k ≡ true) → least_missing n p ≤ least_missing m q
least_missing-grows n m p q le sub =
    ⊎_elim
    (λ (lt : least_missing m q < least_missing n p).
    let yes = sub (least_missing m q) (least_missing-below n p (least_missing m q) lt) in
    let room : least_missing m q < m = omega (arith, least_missing-le n p) in
    absurd (both_ways (q (least_missing m q)) (least_missing-not m q room) yes))
    (λ (ge : least_missing n p ≤ least_missing m q). ge)
    (cases_lt (least_missing m q) (least_missing n p))

-- the least number that is missing, where it is known
pub least_missing-is : (n : ℕ) (p : ℕ → Bool) (b : ℕ) → ((k : ℕ) → k < b → p k ≡ true) → p b ≡ false → b ≤ n → least_missing n p ≡ b
unfolding least_missing
least_missing-is zero p b all lacks le = omega arith
least_missing-is (suc n) p b all lacks le =
    ⊎_elim
    (λ (lt : b < suc n).
    let some : every_below (suc n) p ≡ false =
    elim (every_below (suc n) p) as (λ v. every_below (suc n) p ≡ v → v ≡ false) [
      | true ↦ λ e. absurd (both_ways (p b) lacks (every_below-at (suc n) p b e lt))
      | false ↦ λ e. refl
    ] refl in
    cond-false (every_below (suc n) p) (suc n) (least_missing n p) some ∙ least_missing-is n p b all lacks (let q : b ≤ n = omega arith in q))
    (λ (ge : suc n ≤ b).
    let e : suc n ≡ b = omega arith in
    cond-true (every_below (suc n) p) (suc n) (least_missing n p) (every_below-from (suc n) p (λ k l. all k (let q : k < b = omega arith in q))) ∙ e)
    (cases_lt b (suc n))

-- The least number that a set lacks is the same, whichever bound of the set it is looked for below.
pub least_missing-lacks : (n : ℕ) (p : ℕ → Bool) → ((k : ℕ) → p k ≡ true → k < n) → p (least_missing n p) ≡ false
least_missing-lacks n p h =
    ⊎_elim
    (λ (lt : least_missing n p < n). least_missing-not n p lt)
    (λ (ge : n ≤ least_missing n p). false_from_ne_true _ (λ yes. let b : least_missing n p < n = h (least_missing n p) yes in absurd (omega arith)))
    (cases_lt (least_missing n p) n)

pub least_missing-same : (n m : ℕ) (p : ℕ → Bool) → ((k : ℕ) → p k ≡ true → k < n) → ((k : ℕ) → p k ≡ true → k < m) → least_missing n p ≡ least_missing m p
least_missing-same n m p h g =
    let one : least_missing n p ≤ least_missing m p = least_missing-least n p (least_missing m p) (least_missing-lacks m p g) in
    let two : least_missing m p ≤ least_missing n p = least_missing-least m p (least_missing n p) (least_missing-lacks n p h) in
    omega arith

-- the numbers that `below` lists
pub below-all : (n : ℕ) (p : ℕ → Bool) → AllByRecursion (λ k. (k < n) × (p k ≡ true)) (below n p)
unfolding below
below-all zero p = tt
below-all (suc n) p =
    let front = all-weaker (λ k. (k < n) × (p k ≡ true)) (λ k. (k < suc n) × (p k ≡ true)) (λ k h. (omega (arith, h.0), h.1)) (below n p) (below-all n p) in
    cond_both (p n) (below n p ++ n ∷ []) (below n p) (AllByRecursion (λ k. (k < suc n) × (p k ≡ true))) (λ e. all-append (λ k. (k < suc n) × (p k ≡ true)) (below n p) (n ∷ []) front ((omega arith, e), tt)) (λ _. front)

-- tests that agree list the same numbers
pub below-same : (n : ℕ) (p q : ℕ → Bool) → ((k : ℕ) → k < n → p k ≡ q k) → below n p ≡ below n q
unfolding below
below-same zero p q h = refl
below-same (suc n) p q h =
    let e = below-same n p q (λ k l. h k (let r : k < suc n = omega arith in r)) in
    let f = h n (let r : n < suc n = omega arith in r) in
    ap (λ xs. cond (p n) (xs ++ n ∷ []) xs) e ∙ ap (λ b. cond b (below n q ++ n ∷ []) (below n q)) f

-- numbers past a bound that all fail add nothing
pub below-cut : (m n : ℕ) (p : ℕ → Bool) → m ≤ n → ((k : ℕ) → m ≤ k → p k ≡ false) → below n p ≡ below m p
unfolding below
below-cut m zero p le h = let e : 0 ≡ m = omega arith in ap (λ x. below x p) e
below-cut m (suc n) p le h =
    ⊎_elim
    (λ (lt : m < suc n).
    let q : m ≤ n = omega arith in
    cond-false (p n) (below n p ++ n ∷ []) (below n p) (h n q) ∙ below-cut m n p q h)
    (λ (ge : suc n ≤ m). let e : suc n ≡ m = omega arith in ap (λ x. below x p) e)
    (cases_lt m (suc n))

-- where every number below fails, none is listed
pub below-none : (n : ℕ) (p : ℕ → Bool) → ((k : ℕ) → k < n → p k ≡ false) → below n p ≡ []
unfolding below
below-none zero p h = refl
below-none (suc n) p h =
    cond-false (p n) (below n p ++ n ∷ []) (below n p) (h n (let r : n < suc n = omega arith in r)) ∙ below-none n p (λ k l. h k (let r : k < suc n = omega arith in r))

pub length-below-suc : (n : ℕ) (p : ℕ → Bool) → length (below (suc n) p) ≡ length (below n p) + cond (p n) 1 0
unfolding below
length-below-suc n p =
    elim (p n) as (λ b. length (cond b (below n p ++ n ∷ []) (below n p)) ≡ length (below n p) + cond b 1 0) [
      | true ↦ length-append (below n p) (n ∷ [])
      | false ↦ let e : length (below n p) ≡ length (below n p) + 0 = omega arith in e
    ]

pub length-below-none : (n : ℕ) (p : ℕ → Bool) → ((k : ℕ) → k < n → p k ≡ false) → length (below n p) ≡ 0
length-below-none n p h = ap length (below-none n p h)

pub length-below-le : (m n : ℕ) (p : ℕ → Bool) → m ≤ n → length (below m p) ≤ length (below n p)
length-below-le m zero p le = let e : m ≡ 0 = omega arith in subst (λ x. length (below x p) ≤ length (below 0 p)) (sym e) (omega arith)
length-below-le m (suc n) p le =
    ⊎_elim
    (λ (lt : m < suc n).
    let q : m ≤ n = omega arith in
    let r = length-below-le m n p q in
    let s = length-below-suc n p in
    omega (arith, r, s))
    (λ (ge : suc n ≤ m). let e : suc n ≡ m = omega arith in subst (λ x. length (below m p) ≤ length (below x p)) (sym e) (omega arith))
    (cases_lt m (suc n))

-- the number that passes stands behind those below it
pub below-place : (m n : ℕ) (p : ℕ → Bool) → p n ≡ true → n < m → slice_get (below m p) (length (below n p)) ≡ Some n
unfolding below
below-place zero n p h l = absurd (omega arith)
below-place (suc m) n p h l =
    ⊎_elim
    (λ (lt : n < m).
    let r = below-place m n p h lt in
    let inside : length (below n p) < length (below m p) = slice_get_within (below m p) (length (below n p)) n r in
    cond_both (p m) (below m p ++ m ∷ []) (below m p) (λ xs. slice_get xs (length (below n p)) ≡ Some n) (λ _. get-before (below m p) (m ∷ []) (length (below n p)) inside ∙ r) (λ _. r))
    (λ (ge : m ≤ n).
    let e : m ≡ n = omega arith in
    let here : p m ≡ true = subst (λ x. p x ≡ true) (sym e) h in
    ap (λ xs. slice_get xs (length (below n p))) (cond-true (p m) (below m p ++ m ∷ []) (below m p) here)
    ∙ get-push (below m p) m (length (below n p)) (ap (λ x. length (below x p)) e)
    ∙ ap Some e)
    (cases_lt n m)

-- no number passes where none is listed
pub below-lacks : (n : ℕ) (p : ℕ → Bool) (k : ℕ) → below n p ≡ [] → k < n → p k ≡ true → ⊥
below-lacks n p k e l h = false≢true (ap is_some (subst (λ xs. slice_get xs (length (below k p)) ≡ Some k) e (below-place n k p h l)))

-- the next number is listed where it passes
pub below_goes_on : (n : ℕ) (p : ℕ → Bool) → ((p n ≡ true) → length (below (n + 1) p) ≡ length (below n p) + 1) × ((p n ≡ false) → length (below (n + 1) p) ≡ length (below n p))
below_goes_on n p =
    let e : n + 1 ≡ suc n = omega arith in
    let longer = ap (λ k. length (below k p)) e ∙ length-below-suc n p in (
      λ h. let one = ap (λ b. cond {A = ℕ} b 1 0) h in omega (arith, longer, one),
      λ h. let none = ap (λ b. cond {A = ℕ} b 1 0) h in omega (arith, longer, none),
    )

-- what is listed is below the bound, and passes
pub below-member : (n : ℕ) (p : ℕ → Bool) (i k : ℕ) → slice_get (below n p) i ≡ Some k → (k < n) × (p k ≡ true)
unfolding below
below-member zero p i k h = let l = slice_get_within [] i k h in absurd (omega (arith, l))
below-member (suc n) p i k h =
    elim (p n) as (λ b. p n ≡ b → slice_get (cond b (below n p ++ n ∷ []) (below n p)) i ≡ Some k → (k < suc n) × (p k ≡ true)) [
      | true ↦ λ yes e.
          ⊎_elim
          (λ (lt : i < length (below n p)).
          let r = below-member n p i k (sym (get-before (below n p) (n ∷ []) i lt) ∙ e) in
          let l = r.0 in
          (omega (arith, l), r.1))
          (λ (ge : length (below n p) ≤ i).
          let l = slice_get_within (below n p ++ n ∷ []) i k e in
          let len = length-append (below n p) (n ∷ []) in
          let last : i ≡ length (below n p) = omega (arith, l, len) in
          let same : Some n ≡ Some k = sym (get-push (below n p) n i (sym last)) ∙ e in
          let q : n ≡ k = cc in
          (omega (arith, q), subst (λ x. p x ≡ true) q yes))
          (cases_lt i (length (below n p)))
      | false ↦ λ lacks e.
          let r = below-member n p i k e in
          let l = r.0 in
          (omega (arith, l), r.1)
    ] refl h

-- a number among those below a bound that pass
pub below-has : (n : ℕ) (p : ℕ → Bool) (k : ℕ) → k < n → p k ≡ true → list_any (λ x. x == k) (below n p) ≡ true
unfolding below
below-has zero p k l h = absurd (omega arith)
below-has (suc n) p k l h =
    cond_both (p n) (below n p ++ n ∷ []) (below n p) (λ xs. list_any (λ x. x == k) xs ≡ true)
    (λ e. list_any-append (λ x. x == k) (below n p) (n ∷ [])
    ∙ ⊎_elim
    (λ (lt : k < n). or_left (list_any (λ x. x == k) (below n p)) (list_any (λ x. x == k) (n ∷ [])) (below-has n p k lt h))
    (λ (ge : n ≤ k). or_right (list_any (λ x. x == k) (below n p)) (list_any (λ x. x == k) (n ∷ [])) (or_left (n == k) false (eq-eqb n k (let q : n ≡ k = omega arith in q))))
    (cases_lt k n))
    (λ e. ⊎_elim
    (λ (lt : k < n). below-has n p k lt h)
    (λ (ge : n ≤ k). absurd (false≢true (sym e ∙ subst (λ x. p x ≡ true) (let q : k ≡ n = omega arith in q) h)))
    (cases_lt k n))

pub every-not : (n : ℕ) (p : ℕ → Bool) (k : ℕ) → k < n → p k ≡ false → false ≡ every_below n p
every-not n p k l f = sym (false_from_ne_true (every_below n p) (λ yes. both_ways (p k) f (every_below-at n p k yes l)))

pub every-all : (n k : ℕ) (p : ℕ → Bool) → n ≡ k → every_below k p ≡ true → true ≡ every_below n p
every-all n k p e h = sym (ap (λ m. every_below m p) e ∙ h)

-- of the numbers that pass, those below a bound
pub below-front : (n : ℕ) (p : ℕ → Bool) (i : ℕ) → i ≤ n → filter (λ j. nat_lt j i) (below n p) ≡ below i p
unfolding below
below-front zero p i l = let e : i ≡ 0 = omega arith in subst (λ k. filter (λ j. nat_lt j k) (below 0 p) ≡ below k p) (sym e) refl
below-front (suc n) p i l =
    ⊎_elim
    (λ (lt : i < suc n).
    let small : i ≤ n = omega arith in
    cond_both (p n) (below n p ++ n ∷ []) (below n p) (λ xs. filter (λ j. nat_lt j i) xs ≡ below i p)
    (λ _. filter-push i n (below n p) small ∙ below-front n p i small)
    (λ _. below-front n p i small))
    (λ (ge : suc n ≤ i).
    let e : i ≡ suc n = omega arith in
    subst (λ k. filter (λ j. nat_lt j k) (below (suc n) p) ≡ below k p) (sym e) (filter-all (λ j. nat_lt j (suc n)) (below (suc n) p) (all-weaker (λ k. (k < suc n) × (p k ≡ true)) (λ k. nat_lt k (suc n) ≡ true) (λ k h. lt-ltb k (suc n) h.0) (below (suc n) p) (below-all (suc n) p))))
    (cases_lt i (suc n))
