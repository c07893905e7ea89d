-- Places in lists that were put together, in the numbers below a bound, and in a message's fragments.
use Rattle.std.proofs.Common.{◌≡◌, ℕ, zero, suc, ◌+◌, ◌<◌, ◌≤◌, true, List, [], ◌∷◌, ◌++◌, length, map, filter, Option, Some, ap, ◌∙◌, subst, ⊎_elim, arith}
use Rattle.std.specs.Prelude.{Bool, nat_lt, slice_get}
use Rattle.std.proofs.lemmas.Bool.{cond_both, lt-ltb}
use Rattle.std.proofs.lemmas.List.{length-map}
use Rattle.lapi_base.specs.declared.script.Script.{Script}
use Rattle.lapi_base.specs.declared.message.MsgName.{MsgName}
use Rattle.lapi_base.specs.Record.Below.{below}
use Rattle.lapi_base.specs.Record.Operations.{numbers_below, fragment_count, fragments}
use Rattle.lapi_base.proofs.BelowLaws.{below-all}
use Rattle.lapi_base.proofs.ListLaws.{get-places, all-get, all-weaker, filter-all, filter-push, some-same}
use Rattle.lapi_base.proofs.UptoLaws.{numbers_below-length, numbers_below-at, numbers_below-get}

-- what stands in a list of pairs with one name
map-at : (m : MsgName) (js : List ℕ) (k : ℕ) (x : MsgName × ℕ) → slice_get (map (λ j. (m, j)) js) k ≡ Some x → (m ≡ x.0) × (slice_get js k ≡ Some x.1)
map-at m [] k x h = absurd (cc)
map-at m (j ∷ js) zero x h = let e = some-same (m, j) x h in (ap (λ (y : MsgName × ℕ). y.0) e, ap (λ (y : MsgName × ℕ). Some y.1) e)
map-at m (j ∷ js) (suc k) x h = map-at m js k x h

-- where its second part stands, the pair does
map-get : (m : MsgName) (js : List ℕ) (k j : ℕ) → slice_get js k ≡ Some j → slice_get {X = MsgName × ℕ} (map (λ i. (m, i)) js) k ≡ Some (m, j)
map-get m [] k j h = absurd (cc)
map-get m (i ∷ js) zero j h = let e = some-same i j h in ap {B = Option (MsgName × ℕ)} (λ (y : ℕ). Some (m, y)) e
map-get m (i ∷ js) (suc k) j h = map-get m js k j h

-- fragment j of a message stands at place j, and is below their count
pub fragments-at : (script : Script) (m : MsgName) (k : ℕ) (x : MsgName × ℕ) → slice_get (fragments script m) k ≡ Some x → (m ≡ x.0) × (k ≡ x.1) × (x.1 < fragment_count script m)
unfolding fragments
fragments-at script m k x h = let r = map-at m (numbers_below (fragment_count script m)) k x h in let s = numbers_below-at (fragment_count script m) k x.1 r.1 in (r.0, s.0, s.1)

-- and each below their count stands there
pub fragments-get : (script : Script) (m : MsgName) (j : ℕ) → j < fragment_count script m → slice_get (fragments script m) j ≡ Some (m, j)
unfolding fragments
fragments-get script m j l = map-get m (numbers_below (fragment_count script m)) j j (numbers_below-get (fragment_count script m) j l)

-- how many fragments a message has
pub fragments-length : (script : Script) (m : MsgName) → length (fragments script m) ≡ fragment_count script m
unfolding fragments
fragments-length script m = length-map (numbers_below (fragment_count script m)) (λ j. (m, j)) ∙ numbers_below-length (fragment_count script m)

-- the numbers below n are below n
all-below : (n : ℕ) (p : ℕ → Bool) → filter (λ j. nat_lt j n) (below n p) ≡ below n p
all-below n p = filter-all (λ j. nat_lt j n) (below n p) (all-weaker (λ k. (k < n) × (p k ≡ true)) (λ k. nat_lt k n ≡ true) (λ k h. lt-ltb k n h.0) (below n p) (below-all n p))

-- the place of a number among those that pass is how many of them are below it
pub place-below : (n : ℕ) (p : ℕ → Bool) (k i : ℕ) → slice_get (below n p) k ≡ Some i → length (filter (λ j. nat_lt j i) (below n p)) ≡ k
unfolding below
place-below zero p k i h = absurd (cc)
place-below (suc n) p k i h =
    cond_both (p n) (below n p ++ n ∷ []) (below n p) (λ xs. slice_get xs k ≡ Some i → length (filter (λ j. nat_lt j i) xs) ≡ k)
    (λ _ h'.
    ⊎_elim
    (λ (old : slice_get (below n p) k ≡ Some i).
    let l : i < n = (all-get (λ x. (x < n) × (p x ≡ true)) (below n p) k i (below-all n p) old).0 in
    ap length (filter-push i n (below n p) (let q : i ≤ n = omega arith in q)) ∙ place-below n p k i old)
    (λ (new : (y : ℕ) × ((k ≡ length (below n p) + y) × (slice_get (n ∷ []) y ≡ Some i))). last new.0 new.1.0 new.1.1)
    (get-places (below n p) (n ∷ []) k i h'))
    (λ _ h'. place-below n p k i h')
    h
  where
    last : (y : ℕ) → k ≡ length (below n p) + y → slice_get (n ∷ []) y ≡ Some i → length (filter (λ j. nat_lt j i) (below n p ++ n ∷ [])) ≡ k
    last zero e g =
        subst (λ x. length (filter (λ j. nat_lt j x) (below n p ++ n ∷ [])) ≡ k) (some-same n i g)
        (ap length (filter-push n n (below n p) (let q : n ≤ n = omega arith in q) ∙ all-below n p) ∙ (let q : length (below n p) ≡ k = omega arith in q))
    last (suc y) e g = absurd (cc)
