-- How often a number stands in a list, and counts from which it is taken.
use Rattle.std.proofs.Common.{◌≡◌, ℕ, zero, suc, ◌+◌, ◌-◌, ◌<◌, ◌≤◌, ◌==◌, Bool, true, false, cond, ◌&&◌, not, List, [], ◌∷◌, ◌++◌, length, take, drop, filter, refl, sym, ap, ◌∙◌, subst, ⊎_elim, arith}
use Rattle.std.specs.Prelude.{slice_index, slice_index_or, slice_set, nat_lt}
use Rattle.std.specs.List.{AllByRecursion}
use Rattle.std.proofs.lemmas.Bool.{cases_eq, eq-eqb, ne_eqb, lt-ltb}
use Rattle.std.proofs.lemmas.List.{length-append, length-set, take-append-drop}
use Rattle.std.proofs.lemmas.List.Elements.{filter-append}
use Rattle.lapi_collect.specs.Outstanding.{is_open}
use Rattle.lapi_task.specs.declared.unfinished.Unfinished.{Unfinished}
use Rattle.lapi_task.specs.Unfinished.{times}

pub times-append : (i : ℕ) (xs ys : List ℕ) → times i (xs ++ ys) ≡ times i xs + times i ys
times-append i xs ys = ap length (filter-append (λ k. k == i) xs ys) ∙ length-append (filter (λ k. k == i) xs) (filter (λ k. k == i) ys)

times-take : (i n : ℕ) (xs : List ℕ) → times i (take n xs) ≤ times i xs
times-take i n xs =
    let parts = times-append i (take n xs) (drop n xs) in
    let whole = ap (times i) (take-append-drop n xs) in
    omega (arith, parts, whole)

times-here : (x : ℕ) → times x (x ∷ []) ≡ 1
times-here x = ap (λ b. length (cond b (x ∷ []) [])) (eq-eqb x x refl)

times-there : (i x : ℕ) → (i ≡ x → ⊥) → times i (x ∷ []) ≡ 0
times-there i x apart = ap (λ b. length (cond b (x ∷ []) [])) (ne_eqb x i (λ e. apart (sym e)))

-- a place that was set, and another
pub number-here : (xs : List ℕ) (d v : ℕ) → d < length xs → slice_index (slice_set xs d v) d ≡ v
number-here [] d v l = absurd (omega (arith, l))
number-here (x ∷ xs) zero v l = refl
number-here (x ∷ xs) (suc d) v l = number-here xs d v (omega (arith, l))

pub number-there : (xs : List ℕ) (d v k : ℕ) → (k ≡ d → ⊥) → slice_index (slice_set xs d v) k ≡ slice_index xs k
number-there [] d v k apart = refl
number-there (x ∷ xs) zero v zero apart = absurd (apart refl)
number-there (x ∷ xs) zero v (suc k) apart = refl
number-there (x ∷ xs) (suc d) v zero apart = refl
number-there (x ∷ xs) (suc d) v (suc k) apart = number-there xs d v k (λ e. apart (ap suc e))

pub flag-here : (xs : List Bool) (d : ℕ) (v : Bool) → d < length xs → is_open (slice_set xs d v) d ≡ v
flag-here [] d v l = absurd (omega (arith, l))
flag-here (x ∷ xs) zero v l = refl
flag-here (x ∷ xs) (suc d) v l = flag-here xs d v (omega (arith, l))

pub flag-there : (xs : List Bool) (d : ℕ) (v : Bool) (k : ℕ) → (k ≡ d → ⊥) → is_open (slice_set xs d v) k ≡ is_open xs k
flag-there [] d v k apart = refl
flag-there (x ∷ xs) zero v zero apart = absurd (apart refl)
flag-there (x ∷ xs) zero v (suc k) apart = refl
flag-there (x ∷ xs) (suc d) v zero apart = refl
flag-there (x ∷ xs) (suc d) v (suc k) apart = flag-there xs d v k (λ e. apart (ap suc e))

-- whether one that was open is so still, after so many were taken, where so many are left
abbrev pub still : (was : Bool) (taken left : ℕ) → Bool
still was taken left = was && not (nat_lt 0 taken && left == 0)

pub still-some : (was : Bool) (taken left : ℕ) → 0 < left → still was taken left ≡ was
still-some was taken left l = ap (λ b. was && not (nat_lt 0 taken && b)) (ne_eqb left 0 (λ e. let q = e in absurd (omega (arith, l, q)))) ∙ plain was (nat_lt 0 taken)
  where
    plain : (a b : Bool) → (a && not (b && false)) ≡ a
    plain true true = refl
    plain true false = refl
    plain false b = refl

pub still-none : (was : Bool) (taken left : ℕ) → taken ≡ 0 → still was taken left ≡ was
still-none was taken left e = ap (λ n. still was n left) e ∙ plain was
  where
    plain : (a : Bool) → (a && not (nat_lt 0 0 && left == 0)) ≡ a
    plain true = refl
    plain false = refl

pub still-last : (was : Bool) (taken left : ℕ) → 0 < taken → left ≡ 0 → still was taken left ≡ false
still-last was taken left l e = (λ i. was && not (lt-ltb 0 taken l i && e i == 0)) ∙ plain was
  where
    plain : (a : Bool) → (a && not (true && 0 == 0)) ≡ false
    plain true = refl
    plain false = refl

-- these were taken from what was left
pub record HasTaken (old now : Unfinished) (named : List ℕ) : Type 0 where
  pub size : (length now.undone ≡ length old.undone) × (length now.left ≡ length old.left)
  pub left : (i : ℕ) → slice_index now.left i ≡ slice_index old.left i - times i named
  pub undone : (i : ℕ) → is_open now.undone i ≡ still (is_open old.undone i) (times i named) (slice_index now.left i)

pub taken-none : (old : Unfinished) → HasTaken old old []
taken-none old = record { size = (refl, refl); left = λ i. omega arith; undone = λ i. sym (still-none (is_open old.undone i) 0 (slice_index old.left i) refl) }

-- one more
module _ (old now next : Unfinished) (named : List ℕ) (x : ℕ) (h : HasTaken old now named) (known : (x < length now.left) × (x < length now.undone)) (some : 0 < slice_index now.left x) (left : next.left ≡ slice_set now.left x (slice_index now.left x - 1)) (last : slice_index now.left x ≡ 1 → next.undone ≡ slice_set now.undone x false) (more : (slice_index now.left x == 1) ≡ false → next.undone ≡ now.undone) where
  here-left : slice_index next.left x ≡ slice_index now.left x - 1
  here-left = ap (λ xs. slice_index xs x) left ∙ number-here now.left x (slice_index now.left x - 1) known.0

  there-left : (i : ℕ) → (i ≡ x → ⊥) → slice_index next.left i ≡ slice_index now.left i
  there-left i apart = ap (λ xs. slice_index xs i) left ∙ number-there now.left x (slice_index now.left x - 1) i apart

  here-times : times x (named ++ x ∷ []) ≡ times x named + 1
  here-times = times-append x named (x ∷ []) ∙ ap (λ n. times x named + n) (times-here x)

  there-times : (i : ℕ) → (i ≡ x → ⊥) → times i (named ++ x ∷ []) ≡ times i named
  there-times i apart = times-append i named (x ∷ []) ∙ ap (λ n. times i named + n) (times-there i x apart) ∙ (let e : times i named + 0 ≡ times i named = omega arith in e)

  either : (P : List Bool → Type 0) → (slice_index now.left x ≡ 1 → P (slice_set now.undone x false)) → ((slice_index now.left x ≡ 1 → ⊥) → P now.undone) → P next.undone
  either P f g =
      ⊎_elim
      (λ (one : slice_index now.left x ≡ 1). subst P (sym (last one)) (f one))
      (λ (not-one : slice_index now.left x ≡ 1 → ⊥). subst P (sym (more (ne_eqb (slice_index now.left x) 1 not-one))) (g not-one))
      (cases_eq (slice_index now.left x) 1)

  here-undone : is_open next.undone x ≡ still (is_open old.undone x) (times x (named ++ x ∷ [])) (slice_index next.left x)
  here-undone =
      either (λ xs. is_open xs x ≡ still (is_open old.undone x) (times x (named ++ x ∷ [])) (slice_index next.left x))
      (λ one.
      flag-here now.undone x false known.1
      ∙ sym (still-last (is_open old.undone x) (times x (named ++ x ∷ [])) (slice_index next.left x) (let t = here-times in omega (arith, t)) (let l = here-left in omega (arith, l, one))))
      (λ not-one.
      h.undone x
      ∙ still-some (is_open old.undone x) (times x named) (slice_index now.left x) some
      ∙ sym (still-some (is_open old.undone x) (times x (named ++ x ∷ [])) (slice_index next.left x) (let l = here-left in let b : 1 < slice_index now.left x = above (slice_index now.left x) some not-one in omega (arith, l, b))))
    where
      above : (n : ℕ) → 0 < n → (n ≡ 1 → ⊥) → 1 < n
      above zero l ne = absurd (omega (arith, l))
      above (suc zero) l ne = absurd (ne refl)
      above (suc (suc n)) l ne = omega arith

  there-undone : (i : ℕ) → (i ≡ x → ⊥) → is_open next.undone i ≡ still (is_open old.undone i) (times i (named ++ x ∷ [])) (slice_index next.left i)
  there-undone i apart =
      either (λ xs. is_open xs i ≡ is_open now.undone i) (λ _. flag-there now.undone x false i apart) (λ _. refl)
      ∙ h.undone i
      ∙ (λ k. still (is_open old.undone i) (sym (there-times i apart) k) (sym (there-left i apart) k))

  pub taken-more : HasTaken old next (named ++ x ∷ [])
  taken-more = record {
    size = (either (λ xs. length xs ≡ length old.undone) (λ _. length-set now.undone x false ∙ h.size.0) (λ _. h.size.0), ap length left ∙ length-set now.left x (slice_index now.left x - 1) ∙ h.size.1);
    left = λ i.
        ⊎_elim
        (λ (same : i ≡ x). subst (λ j. slice_index next.left j ≡ slice_index old.left j - times j (named ++ x ∷ [])) (sym same) (let a = here-left in let b = h.left x in let c = here-times in omega (arith, a, b, c)))
        (λ (apart : i ≡ x → ⊥). there-left i apart ∙ h.left i ∙ ap (λ n. slice_index old.left i - n) (sym (there-times i apart)))
        (cases_eq i x);
    undone = λ i.
        ⊎_elim
        (λ (same : i ≡ x). subst (λ j. is_open next.undone j ≡ still (is_open old.undone j) (times j (named ++ x ∷ [])) (slice_index next.left j)) (sym same) here-undone)
        (λ (apart : i ≡ x → ⊥). there-undone i apart)
        (cases_eq i x);
  }

-- Before one of the list is taken, one of it is left.
pub some-left : (old now : Unfinished) (xs : List ℕ) (n x : ℕ) → HasTaken old now (take n xs) → take (n + 1) xs ≡ take n xs ++ x ∷ [] → ((i : ℕ) → times i xs ≤ slice_index old.left i) → 0 < slice_index now.left x
some-left old now xs n x h next enough =
    let a = times-take x (n + 1) xs in
    let b = ap (times x) next ∙ times-append x (take n xs) (x ∷ []) ∙ ap (λ m. times x (take n xs) + m) (times-here x) in
    let c = enough x in
    let d = h.left x in
    omega (arith, a, b, c, d)

pub take-next : (xs : List ℕ) (n : ℕ) → n < length xs → take (n + 1) xs ≡ take n xs ++ slice_index_or xs n 0 ∷ []
take-next xs n l = ap (λ k. take k xs) (let e : n + 1 ≡ suc n = omega arith in e) ∙ pushed xs n l
  where
    pushed : (ys : List ℕ) (k : ℕ) → k < length ys → take (suc k) ys ≡ take k ys ++ slice_index_or ys k 0 ∷ []
    pushed [] k l = absurd (omega (arith, l))
    pushed (y ∷ ys) zero l = refl
    pushed (y ∷ ys) (suc k) l = ap (λ (zs : List ℕ). y ∷ zs) (pushed ys k (omega (arith, l)))

pub known-at : (old now : Unfinished) (done xs : List ℕ) (n : ℕ) → HasTaken old now done → AllByRecursion (λ i. (i < length old.left) × (i < length old.undone)) xs → n < length xs → (slice_index_or xs n 0 < length now.left) × (slice_index_or xs n 0 < length now.undone)
known-at old now done xs n h all l = let x = placed xs n all l in let a = h.size.1 in let b = h.size.0 in (let p = x.0 in omega (arith, p, a), let p = x.1 in omega (arith, p, b))
  where
    placed : (ys : List ℕ) (k : ℕ) → AllByRecursion (λ i. (i < length old.left) × (i < length old.undone)) ys → k < length ys → (slice_index_or ys k 0 < length old.left) × (slice_index_or ys k 0 < length old.undone)
    placed [] k g l = absurd (omega (arith, l))
    placed (y ∷ ys) zero g l = g.0
    placed (y ∷ ys) (suc k) g l = placed ys k g.1 (omega (arith, l))
