-- What follows for any atomic journal.
use Rattle.std.proofs.Common.{◌≡◌, ℕ, suc, ◌<◌, ◌≤◌, ◌==◌, true, cond, ◌&&◌, List, [], ◌∷◌, sym, subst, ⊎_elim, arith}
use Rattle.std.specs.List.{AllByRecursion}
use Rattle.std.proofs.lemmas.Bool.{and_parts, both_ways, cond_both, cond-true}
use Rattle.lapi_base.specs.declared.script.Script.{Script}
use Rattle.lapi_base.specs.declared.rule.Rules.{Rules}
use Rattle.lapi_base.specs.declared.event.Event.{Event}
use Rattle.lapi_base.specs.declared.event.Event.TheVariants.{Issue, Refuse, Enter, Pass, Copy, Head, Land, Begin, End}
use Rattle.lapi_base.specs.Record.Names.{EventKey, Issued, Refused, Entered, Passed, Copied, Headed, Landed, Begun, Ended, key_of, happened}
use Rattle.lapi_base.specs.Record.Refusals.{next}
use Rattle.lapi_base.specs.Record.Operations.{statement}
use Rattle.lapi_base.specs.Record.Atomic.{Atomic, Keeps, needs, has_statement, has_message, is_issued}
use Rattle.lapi_base.proofs.ListLaws.{list_all-each}
use Rattle.lapi_base.proofs.NameLaws.{happened-all-later, happened-cases, happened-nil}
use Rattle.lapi_base.proofs.TestLaws.{eqb-refl}

-- the next statement of a task
pub next-later : (e : Event) (J : List Event) (a : ℕ) → next J a ≤ next (e ∷ J) a
unfolding next
next-later (Issue b i) J a = cond_both (a == b) (suc (next J a)) (next J a) (λ n. next J a ≤ n) (λ _. omega arith) (λ _. omega arith)
next-later (Refuse b i reason) J a = cond_both (a == b) (suc (next J a)) (next J a) (λ n. next J a ≤ n) (λ _. omega arith) (λ _. omega arith)
next-later (Pass b i) J a = cond_both (a == b) (suc (next J a)) (next J a) (λ n. next J a ≤ n) (λ _. omega arith) (λ _. omega arith)
next-later (Enter b i) J a = omega arith
next-later (Copy m) J a = omega arith
next-later (Head m) J a = omega arith
next-later (Land m) J a = omega arith
next-later (Begin m t w) J a = omega arith
next-later (End m t w) J a = omega arith

one_more : (a : ℕ) (J : List Event) → cond (a == a) (suc (next J a)) (next J a) ≡ suc (next J a)
one_more a J = cond-true (a == a) (suc (next J a)) (next J a) (eqb-refl a)

module _ (script : Script) (rules : Rules) where
  pub Atomic-head : (e : Event) (J : List Event) → Atomic script rules (e ∷ J) → Keeps script rules J e
  unfolding Atomic
  Atomic-head e J h = h.0

  pub Atomic-tail : (e : Event) (J : List Event) → Atomic script rules (e ∷ J) → Atomic script rules J
  unfolding Atomic
  Atomic-tail e J h = h.1

  pub Atomic-cons : (e : Event) (J : List Event) → Keeps script rules J e → Atomic script rules J → Atomic script rules (e ∷ J)
  unfolding Atomic
  Atomic-cons e J k h = (k, h)

  -- What has to stand before an event stands.
  pub closed : (d : EventKey) (J : List Event) → Atomic script rules J → happened d J ≡ true → AllByRecursion (λ x. happened x J ≡ true) (needs script rules d)
  closed d [] h s = absurd (both_ways _ (happened-nil d) s)
  closed d (e ∷ J) h s =
      ⊎_elim
      (λ (x : d ≡ key_of e).
      happened-all-later (needs script rules d) e J
      (subst (λ y. AllByRecursion (λ z. happened z J ≡ true) (needs script rules y)) (sym x)
      (list_all-each (λ z. happened z J) (needs script rules (key_of e)) (Atomic-head e J h).after)))
      (λ (x : happened d J ≡ true). happened-all-later (needs script rules d) e J (closed d J (Atomic-tail e J h) x))
      (happened-cases d e J s)

  -- A fact of deeds that each event shows.
  pub shown : (Q : EventKey → Type 0) → ((e : Event) (J : List Event) → Keeps script rules J e → Q (key_of e)) → (d : EventKey) (J : List Event) → Atomic script rules J → happened d J ≡ true → Q d
  shown Q now d [] h s = absurd (both_ways _ (happened-nil d) s)
  shown Q now d (e ∷ J) h s =
      ⊎_elim
      (λ (x : d ≡ key_of e). subst Q (sym x) (now e J (Atomic-head e J h)))
      (λ (x : happened d J ≡ true). shown Q now d J (Atomic-tail e J h) x)
      (happened-cases d e J s)

  -- what stands is there
  abbrev IsThere : EventKey → Type 0
  IsThere (Issued a i) = (has_statement script rules a i && is_issued (statement script a i)) ≡ true
  IsThere (Refused a i) = has_statement script rules a i ≡ true
  IsThere (Entered a i) = has_statement script rules a i ≡ true
  IsThere (Passed a i) = has_statement script rules a i ≡ true
  IsThere (Copied m) = has_message script rules m ≡ true
  IsThere (Headed m) = has_message script rules m ≡ true
  IsThere (Landed m) = has_message script rules m ≡ true
  IsThere (Begun m) = has_message script rules m ≡ true
  IsThere (Ended m) = has_message script rules m ≡ true

  there-now : (e : Event) (J : List Event) → Keeps script rules J e → IsThere (key_of e)
  there-now (Issue a i) J k = k.there
  there-now (Refuse a i reason) J k = k.there
  there-now (Enter a i) J k = (and_parts _ _ k.there).0
  there-now (Pass a i) J k = (and_parts _ _ k.there).0
  there-now (Copy m) J k = k.there
  there-now (Head m) J k = (and_parts _ _ k.there).0
  there-now (Land m) J k = k.there
  there-now (Begin m t w) J k = (and_parts _ _ (and_parts _ _ k.there).0).0
  there-now (End m t w) J k = (and_parts _ _ (and_parts _ _ k.there).0).0

  pub there : (d : EventKey) (J : List Event) → Atomic script rules J → happened d J ≡ true → IsThere d
  there = shown IsThere there-now

  -- Statements that were issued, refused or passed are before the next one; one that was entered is not after it.
  abbrev Behind : List Event → EventKey → Type 0
  Behind J (Issued a i) = i < next J a
  Behind J (Refused a i) = i < next J a
  Behind J (Passed a i) = i < next J a
  Behind J (Entered a i) = i ≤ next J a
  Behind J _ = Unit {0}

  behind-later : (d : EventKey) (e : Event) (J : List Event) → Behind J d → Behind (e ∷ J) d
  behind-later (Issued a i) e J h = omega (arith, next-later e J a)
  behind-later (Refused a i) e J h = omega (arith, next-later e J a)
  behind-later (Passed a i) e J h = omega (arith, next-later e J a)
  behind-later (Entered a i) e J h = omega (arith, next-later e J a)
  behind-later (Copied m) e J h = tt
  behind-later (Headed m) e J h = tt
  behind-later (Landed m) e J h = tt
  behind-later (Begun m) e J h = tt
  behind-later (Ended m) e J h = tt

  behind-now : (e : Event) (J : List Event) → Keeps script rules J e → Behind (e ∷ J) (key_of e)
  unfolding next
  behind-now (Issue a i) J k = let n = one_more a J in omega (arith, n, k.order.0)
  behind-now (Refuse a i reason) J k = let n = one_more a J in omega (arith, n, k.order.0)
  behind-now (Pass a i) J k = let n = one_more a J in omega (arith, n, k.order.0)
  behind-now (Enter a i) J k = omega (arith, k.order.0)
  behind-now (Copy m) J k = tt
  behind-now (Head m) J k = tt
  behind-now (Land m) J k = tt
  behind-now (Begin m t w) J k = tt
  behind-now (End m t w) J k = tt

  pub behind : (d : EventKey) (J : List Event) → Atomic script rules J → happened d J ≡ true → Behind J d
  behind d [] h s = absurd (both_ways _ (happened-nil d) s)
  behind d (e ∷ J) h s =
      ⊎_elim
      (λ (x : d ≡ key_of e). subst (λ y. Behind (e ∷ J) y) (sym x) (behind-now e J (Atomic-head e J h)))
      (λ (x : happened d J ≡ true). behind-later d e J (behind d J (Atomic-tail e J h) x))
      (happened-cases d e J s)
