-- The counters that an issued operation names are there, so those that aren't there stay 0.
use Rattle.std.proofs.Common.{◌≡◌, ℕ, ◌+◌, ◌-◌, ◌<◌, ◌≤◌, ◌==◌, Bool, true, false, cond, ◌&&◌, ◌||◌, not, List, [], ◌∷◌, ◌++◌, Option, None, Some, refl, ◌∙◌, arith}
use Rattle.std.specs.Prelude.{nat_lt, option_to_list}
use Rattle.std.specs.List.{AllByRecursion, list_any}
use Rattle.std.proofs.lemmas.Bool.{cond_both, eqb-true, and_parts, or_parts, ltb-true, not-false, false_from_ne_true}
use Rattle.lapi_base.specs.declared.script.Script.{Script}
use Rattle.lapi_base.specs.declared.rule.Rules.{Rules}
use Rattle.lapi_base.specs.declared.statement.Statement.{Statement}
use Rattle.lapi_base.specs.declared.statement.Statement.TheVariants.{Wait, Set}
use Rattle.lapi_base.specs.declared.message.Leg.{Leg}
use Rattle.lapi_base.specs.declared.message.Leg.TheVariants.{Go, Back, Note, Echo, Join}
use Rattle.lapi_base.specs.declared.message.MsgName.{MsgName}
use Rattle.lapi_base.specs.declared.event.Event.{Event}
use Rattle.lapi_base.specs.declared.event.Event.TheVariants.{Issue, Refuse, Enter, Pass, Copy, Head, Land, Begin, End}
use Rattle.lapi_base.specs.Record.Names.{message, EventKey, Issued, Landed, Begun, Ended, key_of, happened}
use Rattle.lapi_base.specs.Record.Operations.{statement, target, has_back, tgt_counter, org_counter, cmpl_counter, own_counter, target_of}
use Rattle.lapi_base.specs.Record.Handlers.{has_completion}
use Rattle.lapi_base.specs.Record.Counters.{is_counter, copy_tells, land_tells, tells, issued_count, passed_count, count}
use Rattle.lapi_base.specs.Record.Refusals.{option_any, refusal_of, refusal_by}
use Rattle.lapi_base.specs.Record.Atomic.{Atomic, Keeps, needs, copy_needs, land_needs, to_follow, to_land, only_if}
use Rattle.lapi_laws.proofs.Backward.{Atomic-head, Atomic-tail, shown}
use Rattle.lapi_base.proofs.ListLaws.{list_all-each}
use Rattle.lapi_laws.proofs.Shorts.{none-tests, last-of}

any-none : {X : Type 0} (p : X → Bool) (xs ys : List X) → list_any p (xs ++ ys) ≡ false → (list_any p xs ≡ false) × (list_any p ys ≡ false)
any-none p [] ys h = (refl, h)
any-none p (x ∷ xs) ys h =
    let parts = or_parts (p x) (list_any p (xs ++ ys)) h in
    let rest = any-none p xs ys parts.1 in
    ((λ k. parts.0 k || rest.0 k), rest.1)

module _ (script : Script) (rules : Rules) where
  -- a counter that is named is there
  abbrev pub IsThere : Option ℕ → Type 0
  IsThere None = Unit {0}
  IsThere (Some d) = d < script.counters

  is-there : (o : Option ℕ) → list_any (λ c. not (nat_lt c script.counters)) (option_to_list o) ≡ false → IsThere o
  is-there None h = tt
  is-there (Some d) h = ltb-true d script.counters (not-false (nat_lt d script.counters) (or_parts (not (nat_lt d script.counters)) false h).0)

  -- and so is a target
  abbrev pub IsTask : Option ℕ → Type 0
  IsTask None = Unit {0}
  IsTask (Some d) = d < script.tasks

  is-task : (o : Option ℕ) → option_any (λ t. not (nat_lt t script.tasks)) o ≡ false → IsTask o
  is-task None h = tt
  is-task (Some d) h = ltb-true d script.tasks (not-false (nat_lt d script.tasks) h)

  abbrev pub AllThere : Statement → Type 0
  AllThere s = IsThere (own_counter s) × IsThere (tgt_counter s) × IsThere (org_counter s) × IsThere (cmpl_counter s) × IsTask (target_of s)

  pub why-counters : (J : List Event) (a i : ℕ) → refusal_of script rules J a i ≡ None → AllThere (statement script a i)
  unfolding refusal_of refusal_by
  why-counters J a i h =
      let s = statement script a i in
      let test = λ (c : ℕ). not (nat_lt c script.counters) in
      let all = (none-tests _ h).1.1.1.0 in
      let x = any-none test ((option_to_list (own_counter s) ++ option_to_list (tgt_counter s)) ++ option_to_list (org_counter s)) (option_to_list (cmpl_counter s)) all in
      let y = any-none test (option_to_list (own_counter s) ++ option_to_list (tgt_counter s)) (option_to_list (org_counter s)) x.0 in
      let z = any-none test (option_to_list (own_counter s)) (option_to_list (tgt_counter s)) y.0 in
      (is-there (own_counter s) z.0, is-there (tgt_counter s) z.1, is-there (org_counter s) y.1, is-there (cmpl_counter s) x.1, is-task (target_of s) (none-tests _ h).0)

  abbrev Known : EventKey → Type 0
  Known (Issued a i) = AllThere (statement script a i)
  Known _ = Unit {0}

  known-now : (e : Event) (J : List Event) → Keeps script rules J e → Known (key_of e)
  known-now (Issue a i) J k = why-counters J a i k.order.1
  known-now (Refuse a i y) J k = tt
  known-now (Enter a i) J k = tt
  known-now (Pass a i) J k = tt
  known-now (Copy m) J k = tt
  known-now (Head m) J k = tt
  known-now (Land m) J k = tt
  known-now (Begin m t w) J k = tt
  known-now (End m t w) J k = tt

  pub known : (J : List Event) (a i : ℕ) → Atomic script rules J → happened (Issued a i) J ≡ true → AllThere (statement script a i)
  known J a i h d = shown script rules Known known-now (Issued a i) J h d

  -- what isn't there isn't told
  untold : (o : Option ℕ) (a t c : ℕ) → IsThere o → script.counters ≤ c → is_counter o a t c ≡ false
  untold None a t c h far = refl
  untold (Some d) a t c h far = false_from_ne_true (a == t && d == c) (λ y. let same = eqb-true d c (and_parts (a == t) (d == c) y).1 in let q : ⊥ = omega arith in q)

  -- the operation of a message was issued
  pub follows-issued : (J : List Event) (a i : ℕ) → AllByRecursion (λ d. happened d J ≡ true) (to_follow script rules a i) → happened (Issued a i) J ≡ true
  follows-issued J a i h = (last-of script rules (λ d. happened d J ≡ true) (only_if (has_completion script rules a i) (Begun (message a i Go) ∷ Ended (message a i Go) ∷ [])) (Landed (message a i Go) ∷ to_land script rules a i) h).1.0

  copy-untold : (J : List Event) (m : MsgName) (leg : Leg) (t c : ℕ) → Atomic script rules J → AllByRecursion (λ d. happened d J ≡ true) (copy_needs script rules m.origin m.statement leg) → script.counters ≤ c → copy_tells script rules m leg (statement script m.origin m.statement) t c ≡ false
  copy-untold J m Go t c h n far =
      let o = untold (org_counter (statement script m.origin m.statement)) m.origin t c (known J m.origin m.statement h n.0).2 far in
      (λ k. not (has_back (statement script m.origin m.statement)) && o k) ∙ never (not (has_back (statement script m.origin m.statement)))
    where
      never : (b : Bool) → (b && false) ≡ false
      never true = refl
      never false = refl
  copy-untold J m Back t c h n far = untold (tgt_counter (statement script m.origin m.statement)) (target script m.origin m.statement) t c (known J m.origin m.statement h (follows-issued J m.origin m.statement n)).1 far
  copy-untold J m Note t c h n far = refl
  copy-untold J m Echo t c h n far = refl
  copy-untold J m (Join d) t c h n far = refl

  land-untold : (J : List Event) (m : MsgName) (leg : Leg) (t c : ℕ) → Atomic script rules J → AllByRecursion (λ d. happened d J ≡ true) (land_needs script rules m.origin m.statement leg) → script.counters ≤ c → land_tells script rules m leg (statement script m.origin m.statement) t c ≡ false
  land-untold J m Go t c h n far =
      let s = statement script m.origin m.statement in
      let o = untold (tgt_counter s) (target script m.origin m.statement) t c (known J m.origin m.statement h n.0).1 far in
      let b = not (has_back s) && not (has_completion script rules m.origin m.statement) in
      (λ k. b && o k) ∙ never b
    where
      never : (b : Bool) → (b && false) ≡ false
      never true = refl
      never false = refl
  land-untold J m Back t c h n far = untold (org_counter (statement script m.origin m.statement)) m.origin t c (known J m.origin m.statement h (follows-issued J m.origin m.statement n.1)).2 far
  land-untold J m Note t c h n far = untold (cmpl_counter (statement script m.origin m.statement)) m.origin t c (known J m.origin m.statement h (follows-issued J m.origin m.statement n.1)).3 far
  land-untold J m Echo t c h n far = untold (cmpl_counter (statement script m.origin m.statement)) m.origin t c (known J m.origin m.statement h (follows-issued J m.origin m.statement n.1)).3 far
  land-untold J m (Join d) t c h n far = refl

  event-untold : (e : Event) (J : List Event) (t c : ℕ) → Atomic script rules J → Keeps script rules J e → script.counters ≤ c → tells script rules e t c ≡ false
  unfolding tells needs
  event-untold (Copy m) J t c h k far = copy-untold J m m.leg t c h (list_all-each (λ d. happened d J) (copy_needs script rules m.origin m.statement m.leg) k.after) far
  event-untold (Land m) J t c h k far = land-untold J m m.leg t c h (list_all-each (λ d. happened d J) (land_needs script rules m.origin m.statement m.leg) k.after) far
  event-untold (End m b w) J t c h k far =
      let all = list_all-each (λ d. happened d J) (needs script rules (Ended m)) k.after in
      let issued = (last-of script rules (λ d. happened d J ≡ true) (only_if (has_completion script rules m.origin m.statement) (Begun m ∷ [])) (Landed m ∷ to_land script rules m.origin m.statement) all).1.0 in
      untold (tgt_counter (statement script m.origin m.statement)) b t c (known J m.origin m.statement h issued).1 far
  event-untold (Issue a i) J t c h k far = refl
  event-untold (Refuse a i y) J t c h k far = refl
  event-untold (Enter a i) J t c h k far = refl
  event-untold (Pass a i) J t c h k far = refl
  event-untold (Head m) J t c h k far = refl
  event-untold (Begin m b w) J t c h k far = refl

  issue-untold : (s : Statement) (a t c n : ℕ) → AllThere s → script.counters ≤ c → n ≡ 0 → issued_count script rules s a t c n ≡ 0
  issue-untold (Set counter v) a t c n there far z =
      cond_both (a == t && counter == c) v n (λ x. x ≡ 0)
      (λ y. let same = eqb-true counter c (and_parts (a == t) (counter == c) y).1 in let l = there.0 in absurd (omega arith))
      (λ _. z)
  issue-untold _ a t c n there far z = z

  pass-untold : (s : Statement) (a t c n : ℕ) → n ≡ 0 → passed_count script rules s a t c n ≡ 0
  pass-untold (Wait counter v) a t c n z = cond_both (a == t && counter == c) (n - v) n (λ x. x ≡ 0) (λ _. let q : n - v ≡ 0 = omega arith in q) (λ _. z)
  pass-untold _ a t c n z = z

  -- a counter that isn't there is 0
  pub count-none : (J : List Event) (t c : ℕ) → Atomic script rules J → script.counters ≤ c → count script rules J t c ≡ 0
  unfolding count
  count-none [] t c h far = refl
  count-none (Issue a i ∷ J) t c h far = issue-untold (statement script a i) a t c (count script rules J t c) (why-counters J a i (Atomic-head script rules (Issue a i) J h).order.1) far (count-none J t c (Atomic-tail script rules (Issue a i) J h) far)
  count-none (Pass a i ∷ J) t c h far = pass-untold (statement script a i) a t c (count script rules J t c) (count-none J t c (Atomic-tail script rules (Pass a i) J h) far)
  count-none (e ∷ J) t c h far =
      let old = count-none J t c (Atomic-tail script rules e J h) far in
      let no = event-untold e J t c (Atomic-tail script rules e J h) (Atomic-head script rules e J h) far in
      (λ k. old k + cond (no k) 1 0)
