-- Collective calls that were entered: nothing refuses them, whatever is known, and what was passed was entered.
use Rattle.std.proofs.Common.{◌≡◌, ℕ, ◌<◌, Bool, true, false, cond, List, [], ◌∷◌, Some, None, refl, sym, ap, ◌∙◌, subst, ⊎_elim, arith}
use Rattle.std.proofs.lemmas.Bool.{false≢true, and_parts, both_ways, false_from_ne_true}
use Rattle.lapi_base.specs.declared.address.Addr.{Addr}
use Rattle.lapi_base.specs.declared.script.Script.{Script}
use Rattle.lapi_base.specs.declared.rule.Rules.{Rules}
use Rattle.lapi_base.specs.declared.refusal.Refusal.{Refusal}
use Rattle.lapi_base.specs.declared.statement.Statement.{Statement}
use Rattle.lapi_base.specs.declared.statement.Statement.TheVariants.{Gfence}
use Rattle.lapi_base.specs.declared.event.Event.{Event}
use Rattle.lapi_base.specs.declared.event.Event.TheVariants.{Issue, Refuse, Enter, Pass, Copy, Head, Land, Begin, End}
use Rattle.lapi_base.specs.Record.Atomic.{Atomic, Keeps}
use Rattle.lapi_base.specs.Record.Names.{EventKey, Entered, Passed, key_of, happened}
use Rattle.lapi_base.specs.Record.Operations.{statement, target, has_join}
use Rattle.lapi_base.specs.Record.Refusals.{next, first_reason, refusal_by, refusal_of, is_known}
use Rattle.lapi_base.proofs.NameLaws.{happened-nil, happened-cases, happened-later}
use Rattle.lapi_calls.specs.Reasons.{reason_tests}
use Rattle.lapi_laws.proofs.Backward.{Atomic-head, Atomic-tail, behind, shown}

module _ (script : Script) (rules : Rules) where
  -- a collective call names no address at a target
  tests-same : (known other : Addr → Bool) (d : ℕ) (s : Statement) → has_join s ≡ true → reason_tests script rules known d s ≡ reason_tests script rules other d s
  tests-same known other d Gfence h = refl
  tests-same known other d (Statement.Addr at) h = refl
  tests-same known other d _ h = absurd (false≢true h)

  pub call-reason : (known other : Addr → Bool) (a i : ℕ) → has_join (statement script a i) ≡ true → refusal_by script rules known a i ≡ refusal_by script rules other a i
  unfolding refusal_by
  call-reason known other a i h = ap first_reason (tests-same known other (target script a i) (statement script a i) h)

  -- what was entered is a collective call, which nothing refused
  abbrev WasCalled : EventKey → Type 0
  WasCalled (Entered a i) = (has_join (statement script a i) ≡ true) × ((K : List Event) × (refusal_of script rules K a i ≡ None))
  WasCalled _ = Unit {0}

  called-now : (e : Event) (J : List Event) → Keeps script rules J e → WasCalled (key_of e)
  called-now (Enter a i) J k = ((and_parts _ _ k.there).1, (J, k.order.1))
  called-now (Issue a i) J k = tt
  called-now (Refuse a i why) J k = tt
  called-now (Pass a i) J k = tt
  called-now (Copy m) J k = tt
  called-now (Head m) J k = tt
  called-now (Land m) J k = tt
  called-now (Begin m t w) J k = tt
  called-now (End m t w) J k = tt

  passed-now : (e : Event) (J : List Event) (a i : ℕ) → Keeps script rules J e → has_join (statement script a i) ≡ true → Passed a i ≡ key_of e → happened (Entered a i) J ≡ true
  passed-now (Pass b j) J a i k joins x =
      let tasks : b ≡ a = cc in
      let numbers : j ≡ i = cc in
      subst (λ n. happened (Entered a n) J ≡ true) numbers
      (subst (λ n. happened (Entered n j) J ≡ true) tasks
      (subst (λ g. cond g (happened (Entered b j) J ≡ true) (refusal_of script rules J b j ≡ None)) (ap (λ n. has_join (statement script n j)) tasks ∙ ap (λ n. has_join (statement script a n)) numbers ∙ joins) k.order.1))
  passed-now (Issue b j) J a i k joins x = absurd (let y : ⊥ = cc in y)
  passed-now (Refuse b j why) J a i k joins x = absurd (let y : ⊥ = cc in y)
  passed-now (Enter b j) J a i k joins x = absurd (let y : ⊥ = cc in y)
  passed-now (Copy m) J a i k joins x = absurd (let y : ⊥ = cc in y)
  passed-now (Head m) J a i k joins x = absurd (let y : ⊥ = cc in y)
  passed-now (Land m) J a i k joins x = absurd (let y : ⊥ = cc in y)
  passed-now (Begin m t w) J a i k joins x = absurd (let y : ⊥ = cc in y)
  passed-now (End m t w) J a i k joins x = absurd (let y : ⊥ = cc in y)

  -- a collective call that was passed was entered
  pub passed-entered : (J : List Event) (a i : ℕ) → Atomic script rules J → has_join (statement script a i) ≡ true → happened (Passed a i) J ≡ true → happened (Entered a i) J ≡ true
  passed-entered [] a i h joins d = absurd (both_ways _ (happened-nil (Passed a i)) d)
  passed-entered (e ∷ J) a i h joins d =
      happened-later (Entered a i) e J
      (⊎_elim
      (λ (x : Passed a i ≡ key_of e). passed-now e J a i (Atomic-head script rules e J h) joins x)
      (λ (x : happened (Passed a i) J ≡ true). passed-entered J a i (Atomic-tail script rules e J h) joins x)
      (happened-cases (Passed a i) e J d))

  module _ (J : List Event) (h : Atomic script rules J) (a i : ℕ) where
    pub entered-joins : happened (Entered a i) J ≡ true → has_join (statement script a i) ≡ true
    entered-joins d = (shown script rules WasCalled called-now (Entered a i) J h d).0

    pub entered-accepted : happened (Entered a i) J ≡ true → (K : List Event) → refusal_of script rules K a i ≡ None
    unfolding refusal_of
    entered-accepted d K =
        let x = shown script rules WasCalled called-now (Entered a i) J h d in
        call-reason (is_known script K a) (is_known script x.1.0 a) a i x.0 ∙ x.1.1

    -- what is no collective call, or is refused, or stands behind the next statement, was not entered
    pub other-unentered : has_join (statement script a i) ≡ false → happened (Entered a i) J ≡ false
    other-unentered none = false_from_ne_true _ (λ d. both_ways _ none (entered-joins d))

    pub refused-unentered : (K : List Event) (why : Refusal) → refusal_of script rules K a i ≡ Some why → happened (Entered a i) J ≡ false
    refused-unentered K why refused = false_from_ne_true _ (λ d. let e : None ≡ Some why = sym (entered-accepted d K) ∙ refused in absurd (cc))

    pub later-unentered : next J a < i → happened (Entered a i) J ≡ false
    later-unentered later = false_from_ne_true _ (λ d. let b = behind script rules (Entered a i) J h d in absurd (omega arith))
