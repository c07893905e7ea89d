-- Lists: what stands at a place, what holds of all items, and tests over the items.
use Rattle.std.proofs.Common.{◌≡◌, ℕ, zero, suc, ◌+◌, ◌<◌, ◌≤◌, List, [], ◌∷◌, ◌++◌, length, get_or, set, Some, None, refl, ap, ◌∙◌, arith, sym, append_assoc, take, subst, ◌⊎◌, true, false, cond, map, ⊎_elim, inl, inr, filter, Bool, nat_lt}
use Rattle.std.specs.Prelude.{slice_get, Bool, nat_lt}
use Rattle.std.specs.List.{AllByRecursion, flat_map, list_any, list_all}
use Rattle.std.proofs.lemmas.List.{append-nil, length_push, take_more}
use Rattle.std.proofs.lemmas.Option.{get_or_from_slice_get}
use Rattle.std.proofs.lemmas.Bool.{and_parts, and_from, cond-true, false≢true, or_cases, cond-false, le-ltb, or_left, or_right}
use Rattle.std.proofs.lemmas.List.Elements.{filter-append}

pub get-some : {X : Type 0} (xs : List X) (n : ℕ) → n < length xs → (x : X) × (slice_get xs n ≡ Some x)
get-some [] n l = absurd (omega arith)
get-some (x ∷ xs) zero l = (x, refl)
get-some (x ∷ xs) (suc n) l = get-some xs n (let q : n < length xs = omega arith in q)

pub get-set : {X : Type 0} (xs : List X) (n : ℕ) (x y : X) → slice_get xs n ≡ Some x → slice_get (set xs n y) n ≡ Some y
get-set [] n x y h = absurd (cc)
get-set (z ∷ xs) zero x y h = refl
get-set (z ∷ xs) (suc n) x y h = get-set xs n x y h

pub get-set-other : {X : Type 0} (xs : List X) (n k : ℕ) (y : X) → (k ≡ n → ⊥) → slice_get (set xs n y) k ≡ slice_get xs k
get-set-other [] n k y apart = refl
get-set-other (z ∷ xs) zero zero y apart = absurd (apart refl)
get-set-other (z ∷ xs) zero (suc k) y apart = refl
get-set-other (z ∷ xs) (suc n) zero y apart = refl
get-set-other (z ∷ xs) (suc n) (suc k) y apart = get-set-other xs n k y (λ e. apart (ap suc e))

pub get-none : {X : Type 0} (xs : List X) (n : ℕ) → slice_get xs n ≡ None → length xs ≤ n
get-none [] n h = omega arith
get-none (x ∷ xs) zero h = absurd (cc)
get-none (x ∷ xs) (suc n) h = let l = get-none xs n h in omega (arith, l)

pub get-past : {X : Type 0} (xs : List X) (n : ℕ) → length xs ≤ n → slice_get xs n ≡ None
get-past [] n l = refl
get-past (x ∷ xs) zero l = absurd (omega arith)
get-past (x ∷ xs) (suc n) l = get-past xs n (let q : length xs ≤ n = omega arith in q)

-- what stands in the second of two lists
pub get-after : {X : Type 0} (xs ys : List X) (k : ℕ) → slice_get (xs ++ ys) (length xs + k) ≡ slice_get ys k
get-after [] ys k = ap (slice_get ys) (let e : 0 + k ≡ k = omega arith in e)
get-after (x ∷ xs) ys k = ap (slice_get (x ∷ (xs ++ ys))) (let e : suc (length xs) + k ≡ suc (length xs + k) = omega arith in e) ∙ get-after xs ys k

pub get-before : {X : Type 0} (xs ys : List X) (k : ℕ) → k < length xs → slice_get (xs ++ ys) k ≡ slice_get xs k
get-before [] ys k l = absurd (omega arith)
get-before (x ∷ xs) ys zero l = refl
get-before (x ∷ xs) ys (suc k) l = get-before xs ys k (let q : k < length xs = omega arith in q)

-- what is read at a place is what stands there
pub at-place : {X : Type 0} (xs : List X) (n : ℕ) (x y : X) → slice_get xs n ≡ Some x → y ≡ get_or xs n y → y ≡ x
at-place xs n x y h e = e ∙ get_or_from_slice_get xs n x y h

pub all-or : {X : Type 0} (P : X → Type 0) (xs : List X) (n : ℕ) (d : X) → AllByRecursion P xs → P d → P (get_or xs n d)
all-or P [] n d h e = e
all-or P (x ∷ xs) zero d h e = h.0
all-or P (x ∷ xs) (suc n) d h e = all-or P xs n d h.1 e

pub flat_map-push : {X Y : Type 0} (f : X → List Y) (xs : List X) (x : X) → flat_map f (xs ++ x ∷ []) ≡ flat_map f xs ++ f x
flat_map-push f [] x = append-nil (f x)
flat_map-push f (y ∷ xs) x = ap (λ zs. f y ++ zs) (flat_map-push f xs x) ∙ sym (append_assoc (f y) (flat_map f xs) (f x))

pub get-push : {X : Type 0} (xs : List X) (x : X) (n : ℕ) → length xs ≡ n → slice_get (xs ++ x ∷ []) n ≡ Some x
get-push [] x n e = subst (λ k. slice_get (x ∷ []) k ≡ Some x) e refl
get-push (y ∷ xs) x zero e = absurd (omega (arith, e))
get-push (y ∷ xs) x (suc n) e = get-push xs x n (let q : length xs ≡ n = omega (arith, e) in q)

-- an item that is read within the list stands there
pub found-at : {X : Type 0} (xs : List X) (n : ℕ) (x : X) → n < length xs → x ≡ get_or xs n x → slice_get xs n ≡ Some x
found-at xs n x l e = let some = get-some xs n l in some.1 ∙ ap Some (sym (at-place xs n some.0 x some.1 e))

-- the first items, with the next one
pub taken-more : {X : Type 0} (xs ys : List X) (x : X) → length ys < length xs → x ≡ get_or xs (length ys) x → take (length (ys ++ x ∷ [])) xs ≡ take (length ys) xs ++ x ∷ []
taken-more xs ys x l e = ap (λ n. take n xs) (length_push ys x) ∙ take_more xs (length ys) x l ∙ ap (λ y. take (length ys) xs ++ y ∷ []) (sym e)

pub get-front : {X : Type 0} (xs ys : List X) (n : ℕ) (x : X) → slice_get xs n ≡ Some x → slice_get (xs ++ ys) n ≡ Some x
get-front [] ys n x h = absurd (cc)
get-front (y ∷ xs) ys zero x h = h
get-front (y ∷ xs) ys (suc n) x h = get-front xs ys n x h

-- what stands in a list that was put together stands in one of its parts
pub get-parts : {X : Type 0} (xs ys : List X) (n : ℕ) (x : X) → slice_get (xs ++ ys) n ≡ Some x → (slice_get xs n ≡ Some x) ⊎ ((k : ℕ) × (slice_get ys k ≡ Some x))
get-parts [] ys n x h = inr (n, h)
get-parts (y ∷ xs) ys zero x h = inl h
get-parts (y ∷ xs) ys (suc n) x h = get-parts xs ys n x h

pub get-back : {X : Type 0} (xs ys : List X) (x : X) → slice_get (xs ++ x ∷ ys) (length xs) ≡ Some x
get-back [] ys x = refl
get-back (y ∷ xs) ys x = get-back xs ys x

-- what stands in a list that was put together stands in one part, at its place there
pub get-places : {X : Type 0} (xs ys : List X) (n : ℕ) (x : X) → slice_get (xs ++ ys) n ≡ Some x → (slice_get xs n ≡ Some x) ⊎ ((k : ℕ) × ((n ≡ length xs + k) × (slice_get ys k ≡ Some x)))
get-places [] ys n x h = inr (n, (omega arith, h))
get-places (y ∷ xs) ys zero x h = inl h
get-places (y ∷ xs) ys (suc n) x h =
    ⊎_elim
    (λ (a : slice_get xs n ≡ Some x). inl a)
    (λ (b : (k : ℕ) × ((n ≡ length xs + k) × (slice_get ys k ≡ Some x))). inr (b.0, (omega (arith, b.1.0), b.1.1)))
    (get-places xs ys n x h)

-- what stands in the second list stands behind the first
pub get-right : {X : Type 0} (xs ys : List X) (k : ℕ) (x : X) → slice_get ys k ≡ Some x → slice_get (xs ++ ys) (length xs + k) ≡ Some x
get-right [] ys k x h = subst (λ n. slice_get ys n ≡ Some x) (let e : k ≡ 0 + k = omega arith in e) h
get-right (y ∷ xs) ys k x h = subst (λ n. slice_get (y ∷ (xs ++ ys)) n ≡ Some x) (let e : suc (length xs + k) ≡ suc (length xs) + k = omega arith in e) (get-right xs ys k x h)

pub some-same : {X : Type 0} (x y : X) → Some x ≡ Some y → x ≡ y
some-same x y h = cc

pub all-get : {X : Type 0} (P : X → Type 0) (xs : List X) (n : ℕ) (x : X) → AllByRecursion P xs → slice_get xs n ≡ Some x → P x
all-get P [] n x all h = absurd (cc)
all-get P (y ∷ xs) zero x all h = subst P (let e : y ≡ x = cc in e) all.0
all-get P (y ∷ xs) (suc n) x all h = all-get P xs n x all.1 h

pub all-at : {X : Type 0} (P : X → Type 0) (xs : List X) (n : ℕ) (x : X) → AllByRecursion P xs → n < length xs → x ≡ get_or xs n x → P x
all-at P xs n x h l e = all-get P xs n x h (found-at xs n x l e)

pub all-append : {X : Type 0} (P : X → Type 0) (xs ys : List X) → AllByRecursion P xs → AllByRecursion P ys → AllByRecursion P (xs ++ ys)
all-append P [] ys hx hy = hy
all-append P (x ∷ xs) ys hx hy = (hx.0, all-append P xs ys hx.1 hy)

pub all-weaker : {X : Type 0} (P Q : X → Type 0) → ((x : X) → P x → Q x) → (xs : List X) → AllByRecursion P xs → AllByRecursion Q xs
all-weaker P Q f [] h = tt
all-weaker P Q f (x ∷ xs) h = (f x h.0, all-weaker P Q f xs h.1)

pub all-filter : {X : Type 0} (P : X → Type 0) (t : X → Bool) (xs : List X) → AllByRecursion P xs → AllByRecursion (λ x. P x × (t x ≡ true)) (filter t xs)
all-filter P t [] h = tt
all-filter P t (x ∷ xs) h =
    elim (t x) as (λ b. t x ≡ b → AllByRecursion (λ x. P x × (t x ≡ true)) (cond b (x ∷ filter t xs) (filter t xs))) [
      | true ↦ λ e. ((h.0, e), all-filter P t xs h.1)
      | false ↦ λ e. all-filter P t xs h.1
    ] refl

pub all-flat_map : {X Y : Type 0} (P : X → Type 0) (Q : Y → Type 0) (f : X → List Y) (xs : List X) → AllByRecursion P xs → ((x : X) → P x → AllByRecursion Q (f x)) → AllByRecursion Q (flat_map f xs)
all-flat_map P Q f [] h g = tt
all-flat_map P Q f (x ∷ xs) h g = all-append Q (f x) (flat_map f xs) (g x h.0) (all-flat_map P Q f xs h.1 g)

pub all-map : {X Y : Type 0} (P : X → Type 0) (Q : Y → Type 0) (f : X → Y) (xs : List X) → AllByRecursion P xs → ((x : X) → P x → Q (f x)) → AllByRecursion Q (map f xs)
all-map P Q f [] h g = tt
all-map P Q f (x ∷ xs) h g = (g x h.0, all-map P Q f xs h.1 g)

pub all-any : {X : Type 0} (xs : List X) → AllByRecursion (λ _. Unit {0}) xs
all-any [] = tt
all-any (x ∷ xs) = (tt, all-any xs)

pub any-all : {X : Type 0} (t : X → Bool) (P : X → Type 0) (xs : List X) → AllByRecursion P xs → list_any t xs ≡ true → (x : X) × P x × (t x ≡ true)
any-all t P [] all h = absurd (false≢true h)
any-all t P (x ∷ xs) all h =
    ⊎_elim
    (λ (e : t x ≡ true). (x, all.0, e))
    (λ (e : list_any t xs ≡ true). any-all t P xs all.1 e)
    (or_cases (t x) (list_any t xs) h)

-- what stands in a list is among those that pass
pub any-get : {X : Type 0} (t : X → Bool) (xs : List X) (k : ℕ) (x : X) → slice_get xs k ≡ Some x → t x ≡ true → list_any t xs ≡ true
any-get t [] k x e h = absurd (cc)
any-get t (y ∷ xs) zero x e h = or_left _ _ (subst (λ z. t z ≡ true) (let q : x ≡ y = cc in q) h)
any-get t (y ∷ xs) (suc k) x e h = or_right _ _ (any-get t xs k x e h)

-- An item that passes a test, and what other tests it passes.
pub any-find : {X : Type 0} (t : X → Bool) (P : X → Type 0) (xs : List X) → AllByRecursion P xs → list_any t xs ≡ true → (x : X) × P x × (t x ≡ true) × ((u : X → Bool) → u x ≡ true → list_any u xs ≡ true)
any-find t P [] all h = absurd (false≢true h)
any-find t P (x ∷ xs) all h =
    ⊎_elim
    (λ (e : t x ≡ true). (x, all.0, e, λ u g. or_left (u x) (list_any u xs) g))
    (λ (e : list_any t xs ≡ true). let r = any-find t P xs all.1 e in (r.0, r.1, r.2, λ u g. or_right (u x) (list_any u xs) (r.3 u g)))
    (or_cases (t x) (list_any t xs) h)

pub list_all-at : {X : Type 0} (t : X → Bool) (xs : List X) → AllByRecursion (λ x. t x ≡ true) xs → list_all t xs ≡ true
list_all-at t [] h = refl
list_all-at t (x ∷ xs) h = and_from (t x) (list_all t xs) h.0 (list_all-at t xs h.1)

pub list_all-each : {X : Type 0} (t : X → Bool) (xs : List X) → list_all t xs ≡ true → AllByRecursion (λ x. t x ≡ true) xs
list_all-each t [] h = tt
list_all-each t (x ∷ xs) h = let hs = and_parts (t x) (list_all t xs) h in (hs.0, list_all-each t xs hs.1)

-- a test that all pass keeps the list
pub filter-all : {X : Type 0} (t : X → Bool) (xs : List X) → AllByRecursion (λ x. t x ≡ true) xs → filter t xs ≡ xs
filter-all t [] h = refl
filter-all t (x ∷ xs) h = cond-true (t x) (x ∷ filter t xs) (filter t xs) h.0 ∙ ap (λ ys. x ∷ ys) (filter-all t xs h.1)

-- a number that is not below i is not among those that are
pub filter-push : (i n : ℕ) (xs : List ℕ) → i ≤ n → filter (λ j. nat_lt j i) (xs ++ n ∷ []) ≡ filter (λ j. nat_lt j i) xs
filter-push i n xs l = filter-append (λ j. nat_lt j i) xs (n ∷ []) ∙ ap (λ ys. filter (λ j. nat_lt j i) xs ++ ys) (cond-false (nat_lt n i) (n ∷ []) [] (le-ltb n i l)) ∙ append-nil (filter (λ j. nat_lt j i) xs)
