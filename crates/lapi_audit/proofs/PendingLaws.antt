-- The first statements whose data are under way tell what is clear, and stand for the journal.
use Rattle.std.proofs.Common.{◌≡◌, ℕ, suc, ◌<◌, ◌≤◌, ◌==◌, Bool, true, false, cond, ◌&&◌, ◌||◌, not, List, [], ◌∷◌, length, replicate, refl, sym, ap, ◌∙◌, subst, ⊎_elim, get_or, length-set, arith}
use Rattle.std.specs.Prelude.{nat_lt}
use Rattle.std.proofs.lemmas.Bool.{and_parts, and_right, both_ways, cases_eq, cases_lt, cond_both, cond-false, eqb-true, eq-eqb, false_from_ne_true, ltb-true, ne_eqb, not_from_false, or_left}
use Rattle.std.proofs.lemmas.List.{get_or-replicate, length-replicate}
use Rattle.lapi_base.specs.declared.script.Script.{Script}
use Rattle.lapi_base.specs.declared.rule.Rules.{Rules}
use Rattle.lapi_base.specs.declared.event.Event.{Event}
use Rattle.lapi_base.specs.declared.event.Event.TheVariants.{Issue, Refuse, Enter, Pass, Copy, Head, Land, Begin, End}
use Rattle.lapi_base.specs.declared.message.Leg.TheVariants.{Go, Back}
use Rattle.lapi_base.specs.Record.Below.{every_below, least_missing}
use Rattle.lapi_base.specs.Record.Names.{message, EventKey, Issued, Landed, key_of, key_eq, happened}
use Rattle.lapi_base.specs.Record.Operations.{statements, statement, is_data, has_back}
use Rattle.lapi_base.specs.Record.Refusals.{next}
use Rattle.lapi_base.specs.Record.Valid.{ValidScript}
use Rattle.lapi_base.specs.Record.Atomic.{Atomic, Keeps, has_statement, landed_before}
use Rattle.lapi_base.proofs.BelowLaws.{every_below-from, every-not, least_missing-every, least_missing-le, least_missing-below, least_missing-not}
use Rattle.lapi_base.proofs.NameLaws.{deed_eq-true, happened-cons, happened-nil}
use Rattle.lapi_base.proofs.TestLaws.{eqb-refl}
use Rattle.lapi_laws.proofs.Backward.{Atomic-head, Atomic-tail, Atomic-cons, behind, next-later}
use Rattle.lapi_laws.proofs.CellLaws.{item-at}
use Rattle.lapi_laws.proofs.Sound.{landed_before-later}
use Rattle.lapi_calls.specs.Places.{task_of}
use Rattle.lapi_audit.specs.Pending as pending
use Rattle.lapi_audit.specs.Pending.{PendingStands, MaySearch, first_pending}
use Rattle.lapi_audit.specs.Turns as turns
use Rattle.lapi_audit.specs.Turns.{TurnsStand}
use Rattle.lapi_audit.specs.Waits.{clear_at, clear_before}
use Rattle.lapi_audit.proofs.NamedLaws.{task-there}
use Rattle.lapi_audit.proofs.NotedLaws.{there-place}
use Rattle.lapi_audit.proofs.TurnLaws.{turns-after}

-- a statement that isn't issued is clear
unissued-clear : (script : Script) (stands : EventKey → Bool) (a j : ℕ) → stands (Issued a j) ≡ false → clear_at script stands a j ≡ true
unissued-clear script stands a j h =
    or_left (not (is_data (statement script a j) && stands (Issued a j))) (stands (Landed (message a j (cond (has_back (statement script a j)) Back Go))))
    (not_from_false (is_data (statement script a j) && stands (Issued a j)) (and_right (is_data (statement script a j)) (stands (Issued a j)) h))

-- what is clear before a statement, by the first that isn't
pub clear-near : (script : Script) (stands : EventKey → Bool) (nexts firsts : List ℕ) → PendingStands script stands nexts firsts → (a i f : ℕ) → a < script.tasks → f ≡ get_or firsts a 0 → i ≤ f → true ≡ clear_before script stands a i
clear-near script stands nexts firsts s a i f la found near =
    let p = clear_at script stands a in
    let n = get_or nexts a 0 in
    let is = found ∙ s.pending a la in
    sym (every_below-from i p (λ k lt. least_missing-below n p k (let q : k < least_missing n p = omega arith in q)))

pub clear-far : (script : Script) (stands : EventKey → Bool) (nexts firsts : List ℕ) → PendingStands script stands nexts firsts → (a i f n : ℕ) → a < script.tasks → f ≡ get_or firsts a 0 → n ≡ get_or nexts a 0 → f < i → (f == n) ≡ clear_before script stands a i
clear-far script stands nexts firsts s a i f n la found next far =
    let p = clear_at script stands a in
    let is : f ≡ least_missing n p = found ∙ s.pending a la ∙ ap (λ m. least_missing m p) (sym next) in
    let most = least_missing-le n p in
    ⊎_elim
    (λ (same : f ≡ n).
    eq-eqb f n same
    ∙ sym (every_below-from i p (λ k lt.
    ⊎_elim
    (λ (l : k < n). least_missing-below n p k (let q : k < least_missing n p = omega arith in q))
    (λ (g : n ≤ k). unissued-clear script stands a k (s.unissued a k la (let q : get_or nexts a 0 ≤ k = omega arith in q)))
    (cases_lt k n))))
    (λ (other : f ≡ n → ⊥).
    let short : least_missing n p < n = ⊎_elim (λ (l : f < n). let q : least_missing n p < n = omega arith in q) (λ (g : n ≤ f). absurd (other (let q : f ≡ n = omega arith in q))) (cases_lt f n) in
    ne_eqb f n other
    ∙ every-not i p f far (subst (λ m. p m ≡ false) (sym is) (least_missing-not n p short)))
    (cases_eq f n)

module _ (script : Script) (rules : Rules) (valid : ValidScript script) where
  -- the next statement of a task is one of its statements, or comes after them
  one-next : (J : List Event) (e : Event) (a b i : ℕ) → has_statement script rules b i ≡ true → i ≡ next J b → next J a ≤ length (statements script a) → cond (a == b) (suc (next J a)) (next J a) ≤ length (statements script a)
  one-next J e a b i there is old =
      let here = ltb-true i (length (statements script b)) (and_parts (nat_lt b script.tasks) (nat_lt i (length (statements script b))) there).1 in
      cond_both (a == b) (suc (next J a)) (next J a) (λ n. n ≤ length (statements script a))
      (λ same.
      let here' : next J b < length (statements script b) = subst (λ k. k < length (statements script b)) is here in
      let l = subst (λ k. next J k < length (statements script k)) (sym (eqb-true a b same)) here' in
      let q : suc (next J a) ≤ length (statements script a) = omega arith in q)
      (λ _. old)

  next-within : (J : List Event) → Atomic script rules J → (a : ℕ) → next J a ≤ length (statements script a)
  unfolding next
  next-within [] h a = omega arith
  next-within (Issue b i ∷ J) h a = let k = Atomic-head script rules (Issue b i) J h in one-next J (Issue b i) a b i (there-place script rules valid (Issue b i) k.there) k.order.0 (next-within J (Atomic-tail script rules (Issue b i) J h) a)
  next-within (Refuse b i y ∷ J) h a = let k = Atomic-head script rules (Refuse b i y) J h in one-next J (Refuse b i y) a b i (there-place script rules valid (Refuse b i y) k.there) k.order.0 (next-within J (Atomic-tail script rules (Refuse b i y) J h) a)
  next-within (Pass b i ∷ J) h a = let k = Atomic-head script rules (Pass b i) J h in one-next J (Pass b i) a b i (there-place script rules valid (Pass b i) k.there) k.order.0 (next-within J (Atomic-tail script rules (Pass b i) J h) a)
  next-within (Enter b i ∷ J) h a = next-within J (Atomic-tail script rules (Enter b i) J h) a
  next-within (Copy m ∷ J) h a = next-within J (Atomic-tail script rules (Copy m) J h) a
  next-within (Head m ∷ J) h a = next-within J (Atomic-tail script rules (Head m) J h) a
  next-within (Land m ∷ J) h a = next-within J (Atomic-tail script rules (Land m) J h) a
  next-within (Begin m t w ∷ J) h a = next-within J (Atomic-tail script rules (Begin m t w) J h) a
  next-within (End m t w ∷ J) h a = next-within J (Atomic-tail script rules (End m t w) J h) a

  -- what is issued is the next
  issue-next : (J : List Event) (e : Event) (a j : ℕ) → Keeps script rules J e → Issued a j ≡ key_of e → j ≡ next J a
  issue-next J (Issue b i) a j k same = let o = k.order.0 in let x : a ≡ b = cc in let y : j ≡ i = cc in y ∙ o ∙ ap (next J) (sym x)
  issue-next J (Refuse b i y) a j k same = cc
  issue-next J (Enter b i) a j k same = cc
  issue-next J (Pass b i) a j k same = cc
  issue-next J (Copy m) a j k same = cc
  issue-next J (Head m) a j k same = cc
  issue-next J (Land m) a j k same = cc
  issue-next J (Begin m t w) a j k same = cc
  issue-next J (End m t w) a j k same = cc

  -- an event of another task changes neither the next statement nor what stands
  next-other : (J : List Event) (e : Event) (b : ℕ) → (b == task_of (key_of e)) ≡ false → next (e ∷ J) b ≡ next J b
  unfolding next
  next-other J (Issue a i) b h = cond-false (b == a) (suc (next J b)) (next J b) h
  next-other J (Refuse a i y) b h = cond-false (b == a) (suc (next J b)) (next J b) h
  next-other J (Pass a i) b h = cond-false (b == a) (suc (next J b)) (next J b) h
  next-other J (Enter a i) b h = refl
  next-other J (Copy m) b h = refl
  next-other J (Head m) b h = refl
  next-other J (Land m) b h = refl
  next-other J (Begin m t w) b h = refl
  next-other J (End m t w) b h = refl

  stands-other : (J : List Event) (e : Event) (d : EventKey) → (task_of d == task_of (key_of e)) ≡ false → happened d J ≡ happened d (e ∷ J)
  stands-other J e d h =
      let apart : key_eq d (key_of e) ≡ false = false_from_ne_true (key_eq d (key_of e)) (λ y. both_ways _ h (subst (λ k. (task_of d == task_of k) ≡ true) (deed_eq-true d (key_of e) y) (eqb-refl (task_of d)))) in
      sym (happened-cons d e J ∙ ap (λ x. x || happened d J) apart)

  module _ (J : List Event) (e : Event) (nexts firsts : List ℕ) (h : Atomic script rules J) (k : Keeps script rules J e) (t : TurnsStand script nexts J) (s : PendingStands script (λ d. happened d J) nexts firsts) where
    all : Atomic script rules (e ∷ J)
    all = Atomic-cons script rules e J k h

    then : TurnsStand script (turns.after e nexts) (e ∷ J)
    then = turns-after script nexts J e t

    -- the search for the first may go on from the old one
    pub may-search : MaySearch script (λ d. happened d (e ∷ J)) (turns.after e nexts) firsts (task_of (key_of e))
    unfolding landed_before
    may-search =
        let a = task_of (key_of e) in
        let la = task-there script rules e valid k.there in
        let p = clear_at script (λ d. happened d J) a in
        let old = t.nexts a la in
        let new = then.nexts a la in
        let is = s.pending a la in
        let most = least_missing-le (get_or nexts a 0) p in
        let later = next-later e J a in
        let within = next-within (e ∷ J) all a in
        record {
          landed =
              landed_before-later script rules e J a (get_or firsts a 0)
              (λ j l same. let i = issue-next J e a j k same in absurd (omega arith))
              (subst (λ n. every_below n p ≡ true) (sym is) (least_missing-every (get_or nexts a 0) p));
          ahead = let q : get_or firsts a 0 ≤ get_or (turns.after e nexts) a 0 = omega arith in q;
          within = let q : get_or (turns.after e nexts) a 0 ≤ length (statements script a) = omega arith in q;
        }

    -- and what it finds stands for the journal with the event
    pub pending-after : PendingStands script (λ d. happened d (e ∷ J)) (turns.after e nexts) (pending.after script (λ d. happened d (e ∷ J)) (turns.after e nexts) (task_of (key_of e)) firsts)
    pending-after =
        let a = task_of (key_of e) in
        let found = first_pending script (λ d. happened d (e ∷ J)) (get_or (turns.after e nexts) a 0) a in
        let count = s.count in
        record {
          count = length-set firsts a found ∙ s.count;
          pending = λ b lb.
              item-at firsts a b found 0 (let q : b < length firsts = omega arith in q)
              ∙ cond_both (b == a) found (get_or firsts b 0) (λ n. n ≡ first_pending script (λ d. happened d (e ∷ J)) (get_or (turns.after e nexts) b 0) b)
              (λ same. ap (λ c. first_pending script (λ d. happened d (e ∷ J)) (get_or (turns.after e nexts) c 0) c) (sym (eqb-true b a same)))
              (λ other.
              let nexts' = t.nexts b lb ∙ sym (next-other J e b other) ∙ sym (then.nexts b lb) in
              s.pending b lb
              ∙ (λ i. least_missing (nexts' i) (λ j. not (is_data (statement script b j) && stands-other J e (Issued b j) other i) || stands-other J e (Landed (message b j (cond (has_back (statement script b j)) Back Go))) other i)));
          unissued = λ b j lb past.
              false_from_ne_true (happened (Issued b j) (e ∷ J))
              (λ yes.
              let less : j < next (e ∷ J) b = behind script rules (Issued b j) (e ∷ J) all yes in
              let new = then.nexts b lb in
              absurd (omega arith));
        }

-- before the first event
pub pending-start : (script : Script) → PendingStands script (λ d. happened d []) (replicate script.tasks 0) (replicate script.tasks 0)
unfolding least_missing
pending-start script = record {
  count = length-replicate script.tasks 0;
  pending = λ a l. get_or-replicate script.tasks a 0 0 l ∙ ap (λ n. least_missing n (clear_at script (λ d. happened d []) a)) (sym (get_or-replicate script.tasks a 0 0 l));
  unissued = λ a j l past. happened-nil (Issued a j);
}
