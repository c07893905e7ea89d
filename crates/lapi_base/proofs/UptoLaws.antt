-- The numbers below a bound as a list, and what is made of each of them.
use Rattle.std.proofs.Common.{◌≡◌, ℕ, zero, suc, ◌+◌, ◌<◌, ◌≤◌, List, [], ◌∷◌, ◌++◌, length, map, Some, refl, ap, ◌∙◌, subst, ⊎_elim, arith, sym, ◌-◌, get_or, add-one}
use Rattle.std.specs.Prelude.{slice_get}
use Rattle.std.proofs.lemmas.Bool.{cases_lt}
use Rattle.std.proofs.lemmas.List.{length_push, same_lists, length-map, get_or_append_left, get_or-append_right, map-append}
use Rattle.std.proofs.Math.ListN.{get_or-append}
use Rattle.std.proofs.Math.Seq.{get_or-append_seam}
use Rattle.lapi_base.specs.Record.Below.{below}
use Rattle.lapi_base.specs.Record.Operations.{numbers_below}
use Rattle.lapi_base.proofs.ListLaws.{get-front, get-back, get-places, some-same}

pub numbers_below-none : numbers_below 0 ≡ []
unfolding numbers_below below
numbers_below-none = refl

pub numbers_below-more : (n : ℕ) → numbers_below (n + 1) ≡ numbers_below n ++ n ∷ []
unfolding numbers_below below
numbers_below-more n = rw add-one refl

-- the numbers below n: how many they are, and the place of each
pub numbers_below-length : (n : ℕ) → length (numbers_below n) ≡ n
unfolding numbers_below below
numbers_below-length zero = refl
numbers_below-length (suc n) = length_push (numbers_below n) n ∙ (let e : length (numbers_below n) + 1 ≡ suc n = omega (arith, numbers_below-length n) in e)

-- each number stands at its own place
pub numbers_below-get : (n j : ℕ) → j < n → slice_get (numbers_below n) j ≡ Some j
unfolding numbers_below below
numbers_below-get zero j l = absurd (omega arith)
numbers_below-get (suc n) j l =
    ⊎_elim
    (λ (lt : j < n). get-front (numbers_below n) (n ∷ []) j j (numbers_below-get n j lt))
    (λ (ge : n ≤ j).
    let e : n ≡ j = omega arith in
    subst (λ k. slice_get (numbers_below n ++ n ∷ []) k ≡ Some k) e (subst (λ k. slice_get (numbers_below n ++ n ∷ []) k ≡ Some n) (numbers_below-length n) (get-back (numbers_below n) [] n)))
    (cases_lt j n)

-- and what stands at a place is that number
pub numbers_below-at : (n k j : ℕ) → slice_get (numbers_below n) k ≡ Some j → (k ≡ j) × (j < n)
unfolding numbers_below below
numbers_below-at zero k j h = absurd (cc)
numbers_below-at (suc n) k j h =
    ⊎_elim
    (λ (a : slice_get (numbers_below n) k ≡ Some j). let r = numbers_below-at n k j a in (r.0, omega (arith, r.1)))
    (λ (b : (i : ℕ) × ((k ≡ length (numbers_below n) + i) × (slice_get (n ∷ []) i ≡ Some j))). last b.0 b.1.0 b.1.1)
    (get-places (numbers_below n) (n ∷ []) k j h)
  where
    last : (i : ℕ) → k ≡ length (numbers_below n) + i → slice_get (n ∷ []) i ≡ Some j → (k ≡ j) × (j < suc n)
    last zero e g = let same : n ≡ j = some-same n j g in (omega (arith, e, numbers_below-length n, same), omega (arith, same))
    last (suc i) e g = absurd (cc)

-- each number stands at its own place
pub upto_at : (n i d : ℕ) → i < n → get_or (numbers_below n) i d ≡ i
unfolding numbers_below below
upto_at zero i d h = absurd (omega arith)
upto_at (suc n) i d h =
    ⊎_elim
    (λ (lt : i < n). get_or-append (numbers_below n) (n ∷ []) d i (let e = numbers_below-length n in omega (arith, e)) ∙ upto_at n i d lt)
    (λ (ge : n ≤ i).
    let e : n ≡ i = omega arith in
    subst (λ k. get_or (numbers_below n ++ n ∷ []) k d ≡ k) e (subst (λ k. get_or (numbers_below n ++ n ∷ []) k d ≡ n) (numbers_below-length n) (get_or-append_seam (numbers_below n) n [] d)))
    (cases_lt i n)

pub length-over : {X : Type 0} (f : ℕ → X) (n : ℕ) → length (map f (numbers_below n)) ≡ n
length-over f n = length-map (numbers_below n) f ∙ numbers_below-length n

pub over-more : {X : Type 0} (f : ℕ → X) (n : ℕ) → map f (numbers_below (suc n)) ≡ map f (numbers_below n) ++ f n ∷ []
unfolding numbers_below below
over-more f n = map-append f (numbers_below n) (n ∷ [])

pub over-at : {X : Type 0} (f : ℕ → X) (n k : ℕ) (d : X) → k < n → get_or (map f (numbers_below n)) k d ≡ f k
over-at f zero k d l = absurd (omega arith)
over-at f (suc n) k d l =
    ap (λ xs. get_or xs k d) (over-more f n)
    ∙ ⊎_elim
    (λ (lt : k < n). get_or_append_left (map f (numbers_below n)) (f n ∷ []) d k (let e = length-over f n in omega (arith, e)) ∙ over-at f n k d lt)
    (λ (ge : n ≤ k).
    get_or-append_right (map f (numbers_below n)) (f n ∷ []) n k d (length-over f n) ge
    ∙ ap (λ j. get_or (f n ∷ []) j d) (let e : k - n ≡ 0 = omega arith in e)
    ∙ ap f (let e : n ≡ k = omega arith in e))
    (cases_lt k n)

-- the list of what holds at each place
pub is-over : {X : Type 0} (xs : List X) (f : ℕ → X) (n : ℕ) → length xs ≡ n → ((k : ℕ) (d : X) → k < n → get_or xs k d ≡ f k) → xs ≡ map f (numbers_below n)
is-over xs f n e at = same_lists xs (map f (numbers_below n)) (e ∙ sym (length-over f n)) (λ k d l. let q : k < n = omega (arith, e) in at k d q ∙ sym (over-at f n k d q))

pub over-same : {X : Type 0} (f g : ℕ → X) (n : ℕ) → ((x : ℕ) → f x ≡ g x) → map f (numbers_below n) ≡ map g (numbers_below n)
over-same f g n h = λ i. map (λ x. h x i) (numbers_below n)
