-- Every statement below a task's next one was issued, refused or passed, and so is of a kind that can be.
use Rattle.std.proofs.Common.{◌≡◌, ◌⊎◌, ℕ, suc, ◌<◌, ◌≤◌, ◌==◌, true, false, cond, List, [], ◌∷◌, Some, refl, sym, ap, subst, ⊎_elim, inl, inr, arith}
use Rattle.std.proofs.lemmas.Bool.{and_parts, eqb-true, cases_lt}
use Rattle.lapi_base.specs.declared.script.Script.{Script}
use Rattle.lapi_base.specs.declared.rule.Rules.{Rules}
use Rattle.lapi_base.specs.declared.refusal.Refusal.{Refusal}
use Rattle.lapi_base.specs.declared.event.Event.{Event}
use Rattle.lapi_base.specs.declared.event.Event.TheVariants.{Issue, Refuse, Enter, Pass, Copy, Head, Land, Begin, End}
use Rattle.lapi_base.specs.Record.Names.{EventKey, Issued, Refused, Passed, key_of, happened}
use Rattle.lapi_base.specs.Record.Operations.{statement}
use Rattle.lapi_base.specs.Record.Refusals.{next, refusal_of}
use Rattle.lapi_base.specs.Record.Atomic.{Atomic, Keeps, is_issued, is_passed}
use Rattle.lapi_base.proofs.NameLaws.{happened-later, happened-head}
use Rattle.lapi_laws.proofs.Backward.{Atomic-head, Atomic-tail, shown}

module _ (script : Script) (rules : Rules) where
  abbrev pub Taken : List Event → (a i : ℕ) → Type 0
  Taken J a i = (happened (Issued a i) J ≡ true) ⊎ (happened (Refused a i) J ≡ true) ⊎ (happened (Passed a i) J ≡ true)

  taken-later : (e : Event) (J : List Event) (a i : ℕ) → Taken J a i → Taken (e ∷ J) a i
  taken-later e J a i t =
      ⊎_elim
      (λ (x : happened (Issued a i) J ≡ true). inl (happened-later (Issued a i) e J x))
      (λ (y : (happened (Refused a i) J ≡ true) ⊎ (happened (Passed a i) J ≡ true)).
      ⊎_elim
      (λ (x : happened (Refused a i) J ≡ true). inr (inl (happened-later (Refused a i) e J x)))
      (λ (x : happened (Passed a i) J ≡ true). inr (inr (happened-later (Passed a i) e J x)))
      y)
      t

  -- what counts one statement of task b more
  one-taken : (e : Event) (J : List Event) (b k a i : ℕ) → k ≡ next J b → ((i : ℕ) → i < next J a → Taken J a i) → i < cond (a == b) (suc (next J a)) (next J a) → Taken (e ∷ J) b k → Taken (e ∷ J) a i
  one-taken e J b k a i turn old l new =
      elim (a == b) as (λ c. (a == b) ≡ c → i < cond c (suc (next J a)) (next J a) → Taken (e ∷ J) a i) [
        | true ↦ λ same l'.
            let ab = eqb-true a b same in
            ⊎_elim
            (λ (lt : i < next J a). taken-later e J a i (old i lt))
            (λ (ge : next J a ≤ i).
            let nn = ap (next J) ab in
            let ki : k ≡ i = omega arith in
            subst (λ x. Taken (e ∷ J) x i) (sym ab) (subst (λ y. Taken (e ∷ J) b y) ki new))
            (cases_lt i (next J a))
        | false ↦ λ _ l'. taken-later e J a i (old i l')
      ] refl l

  -- every statement below the next one was issued, refused or passed
  pub taken : (J : List Event) → Atomic script rules J → (a i : ℕ) → i < next J a → Taken J a i
  unfolding next
  taken [] h a i l = absurd (omega arith)
  taken (Issue b k ∷ J) h a i l = one-taken (Issue b k) J b k a i (Atomic-head script rules (Issue b k) J h).order.0 (taken J (Atomic-tail script rules (Issue b k) J h) a) l (inl (happened-head (Issue b k) J))
  taken (Refuse b k refusal_of ∷ J) h a i l = one-taken (Refuse b k refusal_of) J b k a i (Atomic-head script rules (Refuse b k refusal_of) J h).order.0 (taken J (Atomic-tail script rules (Refuse b k refusal_of) J h) a) l (inr (inl (happened-head (Refuse b k refusal_of) J)))
  taken (Pass b k ∷ J) h a i l = one-taken (Pass b k) J b k a i (Atomic-head script rules (Pass b k) J h).order.0 (taken J (Atomic-tail script rules (Pass b k) J h) a) l (inr (inr (happened-head (Pass b k) J)))
  taken (Enter b k ∷ J) h a i l = taken-later (Enter b k) J a i (taken J (Atomic-tail script rules (Enter b k) J h) a i l)
  taken (Copy m ∷ J) h a i l = taken-later (Copy m) J a i (taken J (Atomic-tail script rules (Copy m) J h) a i l)
  taken (Head m ∷ J) h a i l = taken-later (Head m) J a i (taken J (Atomic-tail script rules (Head m) J h) a i l)
  taken (Land m ∷ J) h a i l = taken-later (Land m) J a i (taken J (Atomic-tail script rules (Land m) J h) a i l)
  taken (Begin m t w ∷ J) h a i l = taken-later (Begin m t w) J a i (taken J (Atomic-tail script rules (Begin m t w) J h) a i l)
  taken (End m t w ∷ J) h a i l = taken-later (End m t w) J a i (taken J (Atomic-tail script rules (End m t w) J h) a i l)

  -- what each key_of of a statement shows of its kind; a refusal is one that the table gives after some journal
  abbrev pub OfKind : EventKey → Type 0
  OfKind (Issued a i) = is_issued (statement script a i) ≡ true
  OfKind (Refused a i) = (K : List Event) × (reason : Refusal) × (refusal_of script rules K a i ≡ Some reason)
  OfKind (Passed a i) = is_passed (statement script a i) ≡ true
  OfKind _ = Unit {0}

  kind-now : (e : Event) (J : List Event) → Keeps script rules J e → OfKind (key_of e)
  kind-now (Issue a i) J k = (and_parts _ _ k.there).1
  kind-now (Refuse a i reason) J k = (J, reason, k.order.1)
  kind-now (Enter a i) J k = tt
  kind-now (Pass a i) J k = (and_parts _ _ k.there).1
  kind-now (Copy m) J k = tt
  kind-now (Head m) J k = tt
  kind-now (Land m) J k = tt
  kind-now (Begin m t w) J k = tt
  kind-now (End m t w) J k = tt

  pub kind : (d : EventKey) (J : List Event) → Atomic script rules J → happened d J ≡ true → OfKind d
  kind = shown script rules OfKind kind-now
