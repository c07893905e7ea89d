-- How many jobs wait and run.
use Rattle.std.proofs.Common.{◌≡◌, ◌+◌, ◌<◌, ◌≤◌, ◌^◌, ◌==◌, ℕ, zero, suc, Bool, true, false, cond, not, ◌&&◌, List, [], ◌∷◌, ◌++◌, filter, length, Option, Some, None, refl, sym, ap, ◌∙◌, arith}
use Rattle.std.specs.Prelude.{option_map, is_some, slice_index_or}
use Rattle.std.proofs.lemmas.Bool.{cond-true, cond-false, and_right, ne_eqb}
use Rattle.std.proofs.lemmas.List.{length-map}
use Rattle.lapi_base.proofs.BelowLaws.{length-below-suc, below-same}
use Rattle.lapi_base.specs.declared.script.Script.{Script}
use Rattle.lapi_base.specs.declared.rule.Rules.{Rules}
use Rattle.lapi_base.specs.declared.event.Event.{Event}
use Rattle.lapi_base.specs.Record.Below.{below, every_below}
use Rattle.lapi_base.specs.Record.Final.{is_empty}
use Rattle.lapi_base.specs.Record.Jobs.{queue, runs, busy}
use Rattle.lapi_base.specs.Record.Valid.{ValidScript}
use Rattle.lapi_jobs.specs.Jobs.{Works, run_by, count_running}
use Rattle.lapi_task.specs.HasJobs.{pending, HasJobs}

pub some : (n : ℕ) → (suc n == 0) ≡ false
some n = ne_eqb (suc n) 0 (λ e. absurd (omega arith))

pushed : (xs : List ℕ) (x : ℕ) → (length (xs ++ x ∷ []) == 0) ≡ false
pushed [] x = refl
pushed (y ∷ xs) x = some (length (xs ++ x ∷ []))

and-true : (b : Bool) → (b && true) ≡ b
and-true true = refl
and-true false = refl

pub none-below : (n : ℕ) (p : ℕ → Bool) → every_below n (λ i. not (p i)) ≡ (length (below n p) == 0)
unfolding every_below below
none-below zero p = refl
none-below (suc n) p = elim (p n) as (λ b. (every_below n (λ i. not (p i)) && not b) ≡ (length (cond b (below n p ++ n ∷ []) (below n p)) == 0)) [
  | true ↦ and_right (every_below n (λ i. not (p i))) false refl ∙ sym (pushed (below n p) n)
  | false ↦ and-true (every_below n (λ i. not (p i))) ∙ none-below n p
]

-- the numbers below suc n are 0 and those after it
below-shift : (n : ℕ) (p : ℕ → Bool) → length (below (suc n) p) ≡ cond (p 0) 1 0 + length (below n (λ k. p (suc k)))
unfolding below
below-shift zero p = length-below-suc zero p ∙ (let e : length (below zero p) + cond (p 0) 1 0 ≡ cond (p 0) 1 0 + 0 = omega arith in e)
below-shift (suc n) p =
    let rest = below-shift n p in
    let whole = length-below-suc (suc n) p in
    let part = length-below-suc n (λ k. p (suc k)) in
    omega (arith, rest, whole, part)

filter-length : {X : Type 0} (p : X → Bool) (x : X) (xs : List X) → length (filter p (x ∷ xs)) ≡ cond (p x) 1 0 + length (filter p xs)
filter-length p x xs = elim (p x) as (λ b. p x ≡ b → length (filter p (x ∷ xs)) ≡ cond b 1 0 + length (filter p xs)) [
  | true ↦ λ e. ap length (cond-true (p x) (x ∷ filter p xs) (filter p xs) e) ∙ (let s : suc (length (filter p xs)) ≡ 1 + length (filter p xs) = omega arith in s)
  | false ↦ λ e. ap length (cond-false (p x) (x ∷ filter p xs) (filter p xs) e) ∙ (let s : length (filter p xs) ≡ 0 + length (filter p xs) = omega arith in s)
] refl

filter-short : {X : Type 0} (p : X → Bool) (xs : List X) → length (filter p xs) ≤ length xs
filter-short p [] = omega arith
filter-short p (x ∷ xs) =
    let rest = filter-short p xs in
    elim (p x) as (λ b. length (filter p (x ∷ xs)) ≡ cond b 1 0 + length (filter p xs) → length (filter p (x ∷ xs)) ≤ suc (length xs)) [
      | true ↦ λ e. omega (arith, rest, e)
      | false ↦ λ e. omega (arith, rest, e)
    ] (filter-length p x xs)

-- so many are there as there are places with one
places-counted : {X : Type 0} (xs : List (Option X)) → length (filter is_some xs) ≡ length (below (length xs) (λ k. is_some (slice_index_or xs k None)))
unfolding below
places-counted [] = refl
places-counted (x ∷ xs) =
    filter-length is_some x xs
    ∙ ap (λ n. cond (is_some x) 1 0 + n) (places-counted xs)
    ∙ sym (below-shift (length xs) (λ k. is_some (slice_index_or (x ∷ xs) k None)))

some-mapped : {X Y : Type 0} (f : X → Y) (o : Option X) → is_some (option_map f o) ≡ is_some o
some-mapped f None = refl
some-mapped f (Some x) = refl

empty-counted : {X : Type 0} (xs : List X) → is_empty xs ≡ (length xs == 0)
empty-counted [] = refl
empty-counted (x ∷ xs) = sym (some (length xs))

module _ (script : Script) (rules : Rules) (t : ℕ) (jobs : Works) (J : List Event) (h : HasJobs script rules t jobs J) where
  pub waiting-counted : length jobs.waiting ≡ length (queue script rules J t)
  waiting-counted = ap length h.waiting ∙ length-map (queue script rules J t) (pending script rules)

  pub running-counted : count_running jobs ≡ length (busy script J t)
  unfolding busy
  running-counted =
      places-counted jobs.workers
      ∙ ap (λ n. length (below n (λ w. is_some (run_by jobs w)))) h.workers
      ∙ ap length (below-same script.workers (λ w. is_some (run_by jobs w)) (λ w. is_some (runs J t w)) (λ w l. ap is_some (h.running w l) ∙ some-mapped (pending script rules) (runs J t w)))

  pub running-few : ValidScript script → count_running jobs < 2 ^ 32
  running-few valid =
      let most = filter-short is_some jobs.workers in
      let workers = h.workers in
      let few = valid.workers.1 in
      omega (arith, most, workers, few)

  -- none waits and none runs
  pub jobs-none : (is_empty (queue script rules J t) && every_below script.workers (λ w. not (is_some (runs J t w)))) ≡ (length jobs.waiting == 0 && count_running jobs == 0)
  unfolding busy
  jobs-none =
      ap (λ b. b && every_below script.workers (λ w. not (is_some (runs J t w)))) (empty-counted (queue script rules J t) ∙ ap (λ n. n == 0) (sym waiting-counted))
      ∙ ap (λ b. length jobs.waiting == 0 && b) (none-below script.workers (λ w. is_some (runs J t w)) ∙ ap (λ n. n == 0) (sym running-counted))
