-- In an atomic journal each key_of stands once, and what an event needs stands before it.
use Rattle.std.proofs.Common.{◌≡◌, ℕ, ◌+◌, ◌≤◌, true, false, cond, List, [], ◌∷◌, ◌++◌, refl, sym, ap, ◌∙◌, subst, arith}
use Rattle.std.specs.List.{AllByRecursion}
use Rattle.std.proofs.lemmas.Bool.{or_parts}
use Rattle.std.proofs.lemmas.List.Sums.{sum_by-cons}
use Rattle.lapi_base.specs.declared.script.Script.{Script}
use Rattle.lapi_base.specs.declared.rule.Rules.{Rules}
use Rattle.lapi_base.specs.declared.message.Leg.TheVariants.{Go}
use Rattle.lapi_base.specs.declared.event.Event.{Event}
use Rattle.lapi_base.specs.Record.Names.{message, EventKey, Headed, Landed, Begun, Ended, key_of, key_eq, happened}
use Rattle.lapi_base.specs.Record.Operations.{statement, is_am}
use Rattle.lapi_base.specs.Record.Atomic.{Atomic, Keeps, needs, land_needs, only_if}
use Rattle.lapi_base.specs.Laws.Headline.{times, StandsAfter, LandsOnce, HandlersOnce, HandlersInOrder, HoldsOfAtomic, HoldsOfJournals}
use Rattle.lapi_base.proofs.ListLaws.{list_all-each}
use Rattle.lapi_base.proofs.NameLaws.{deed_eq-true, happened-cons}
use Rattle.lapi_laws.proofs.Backward.{Atomic-head, Atomic-tail}
use Rattle.lapi_laws.proofs.Runs.{run-sound}
use Rattle.lapi_laws.proofs.Workers.{begun-of}

-- how often a key_of stands, with one more event
times-cons : (d : EventKey) (e : Event) (J : List Event) → times d (e ∷ J) ≡ cond (key_eq d (key_of e)) 1 0 + times d J
times-cons d e J = sum_by-cons (λ x. cond (key_eq d (key_of x)) 1 0) e J

-- what doesn't stand stands no time
times-none : (d : EventKey) (J : List Event) → happened d J ≡ false → times d J ≡ 0
times-none d [] h = refl
times-none d (e ∷ J) h =
    let parts = or_parts (key_eq d (key_of e)) (happened d J) (sym (happened-cons d e J) ∙ h) in
    times-cons d e J ∙ ap (λ b. cond b 1 0 + times d J) parts.0 ∙ ap (λ n. 0 + n) (times-none d J parts.1)

-- what holds of every atomic journal holds of every run's
pub of-journals : (P : Script → Rules → List Event → Type 0) → HoldsOfAtomic P → HoldsOfJournals P
of-journals P h = λ script rules spells size refusal acts v. h script rules _ (run-sound script rules spells size refusal acts v).atomic

module _ (script : Script) (rules : Rules) where
  -- what a journal's end keeps
  pub atomic-end : (later J : List Event) → Atomic script rules (later ++ J) → Atomic script rules J
  atomic-end [] J h = h
  atomic-end (e ∷ later) J h = atomic-end later J (Atomic-tail script rules e (later ++ J) h)

  -- an event keeps its rule where it stands
  pub keeps-at : (J before : List Event) (e : Event) → Atomic script rules J → StandsAfter before e J → Keeps script rules before e
  keeps-at J before e h at = Atomic-head script rules e before (atomic-end at.0 (e ∷ before) (subst (Atomic script rules) at.1 h))

  -- each key_of stands at most once
  times-one : (d : EventKey) (J : List Event) → Atomic script rules J → times d J ≤ 1
  times-one d [] h = omega arith
  times-one d (e ∷ J) h =
      elim (key_eq d (key_of e)) as (λ b. key_eq d (key_of e) ≡ b → times d (e ∷ J) ≡ cond b 1 0 + times d J → times d (e ∷ J) ≤ 1) [
        | true ↦ λ same sum.
            let none = times-none d J (subst (λ x. happened x J ≡ false) (sym (deed_eq-true d (key_of e) same)) (Atomic-head script rules e J h).once) in
            omega arith
        | false ↦ λ _ sum. let rest = times-one d J (Atomic-tail script rules e J h) in omega arith
      ] refl (times-cons d e J)

  -- what an event needs stands before it
  needed : (J before : List Event) (e : Event) (d : EventKey) → Atomic script rules J → key_of e ≡ d → StandsAfter before e J → AllByRecursion (λ x. happened x before ≡ true) (needs script rules d)
  needed J before e d h same at = subst (λ x. AllByRecursion (λ y. happened y before ≡ true) (needs script rules x)) same (list_all-each (λ y. happened y before) (needs script rules (key_of e)) (keeps-at J before e h at).after)

  -- an active message needs its head to land
  head-needed : (a i : ℕ) (before : List Event) → is_am (statement script a i) ≡ true → AllByRecursion (λ x. happened x before ≡ true) (land_needs script rules a i Go) → happened (Headed (message a i Go)) before ≡ true
  head-needed a i before am all = (subst (λ b. AllByRecursion (λ x. happened x before ≡ true) (only_if b (Headed (message a i Go) ∷ []))) am all.1.1).0

  -- what each handler needs stands before it
  in-order : (J : List Event) → Atomic script rules J → HandlersInOrder script rules J
  unfolding needs
  in-order J h = (
    λ m before e same at. (needed J before e (Headed m) h same at).1.0,
    λ a i am before e same at. head-needed a i before am (needed J before e (Landed (message a i Go)) h same at),
    λ m before e same at. (needed J before e (Begun m) h same at).0,
    λ m before e same at. begun-of script rules e before m (atomic-end at.0 (e ∷ before) (subst (Atomic script rules) at.1 h)) (sym same),
  )

-- the laws, of every atomic journal
pub lands-once : HoldsOfAtomic LandsOnce
lands-once script rules J h = λ m. times-one script rules (Landed m) J h

-- a handler is called once for a message
pub handlers-once : HoldsOfAtomic HandlersOnce
handlers-once script rules J h = λ m. (times-one script rules (Headed m) J h, times-one script rules (Begun m) J h, times-one script rules (Ended m) J h)

-- and in order
pub handlers-in-order : HoldsOfAtomic HandlersInOrder
handlers-in-order script rules J h = in-order script rules J h
