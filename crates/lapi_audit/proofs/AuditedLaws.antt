-- The journal of a run, as it is read and judged.
use Rattle.std.proofs.Common.{◌≡◌, ℕ, ◌+◌, List, [], ◌∷◌, true, reverse, take, drop, Some, refl, sym, ap, ◌∙◌, subst}
use Rattle.std.specs.Prelude.{slice_get}
use Rattle.std.specs.List.{AllByRecursion}
use Rattle.std.proofs.lemmas.List.{reverse-append, take-append-drop}
use Rattle.std.proofs.lemmas.Option.{get_or_from_slice_get, slice_get_within}
use mathlib.Core.List.{reverse-cons}
use Rattle.lapi_base.specs.declared.script.Script.{Script}
use Rattle.lapi_base.specs.declared.rule.Rules.{Rules}
use Rattle.lapi_base.specs.declared.event.Event.{Event}
use Rattle.lapi_base.specs.Record.Atomic.{Atomic, is_there}
use Rattle.lapi_base.proofs.ListLaws.{all-append}
use Rattle.lapi_laws.proofs.Once.{atomic-end}
use Rattle.lapi_audit.specs.declared.rule.Verdict.{Verdict}
use Rattle.lapi_audit.specs.declared.rule.Verdict.TheVariants as verdicts
use Rattle.lapi_audit.specs.Rules.{IsVerdict}
use Rattle.lapi_audit.proofs.EventCounts.{all-there}
use Rattle.lapi_audit.proofs.JournalLaws.{reverse-next}

all-reversed : {X : Type 0} (P : X → Type 0) (xs : List X) → AllByRecursion P xs → AllByRecursion P (reverse xs)
all-reversed P [] h = tt
all-reversed P (x ∷ xs) h = subst (AllByRecursion P) (sym (reverse-cons x xs)) (all-append P (reverse xs) (x ∷ []) (all-reversed P xs h.1) (h.0, tt))

module _ (script : Script) (rules : Rules) where
  -- each event of an atomic journal is there, in the order of time too
  pub there-in-time : (J : List Event) → Atomic script rules J → AllByRecursion (λ e. is_there script rules e ≡ true) (reverse J)
  there-in-time J h = all-reversed (λ e. is_there script rules e ≡ true) J (all-there script rules J h)

  -- the events up to and with a place are atomic, where all are
  up-to : (events : List Event) (place : ℕ) (e : Event) → slice_get events place ≡ Some e → Atomic script rules (reverse events) → Atomic script rules (e ∷ reverse (take place events))
  up-to events place e there h =
      let here = get_or_from_slice_get events place e e there in
      let l = slice_get_within events place e there in
      let front = reverse-next events place e l in
      let whole = ap reverse (sym (take-append-drop (place + 1) events)) ∙ reverse-append (take (place + 1) events) (drop (place + 1) events) in
      subst (λ x. Atomic script rules (x ∷ reverse (take place events))) here
      (subst (Atomic script rules) front
      (atomic-end script rules (reverse (drop (place + 1) events)) (reverse (take (place + 1) events)) (subst (Atomic script rules) whole h)))

  -- so nothing else is a verdict on them
  pub one-verdict : (events : List Event) → Atomic script rules (reverse events) → (verdict : Verdict) → IsVerdict script rules events verdict → verdict ≡ verdicts.Atomic
  one-verdict events h verdicts.Atomic v = refl
  one-verdict events h (verdicts.Broken rule place) v = absurd (v.after (up-to events place v.event v.there h))
