-- What was refused and what was read of a task stand by rising statement.
use Rattle.std.proofs.Common.{◌≡◌, ℕ, suc, ◌≤◌, ◌==◌, true, false, cond, List, [], ◌∷◌, ◌++◌, refl, sym, ap, ◌∙◌, subst, arith}
use Rattle.std.proofs.lemmas.Bool.{eqb-true, eq-eqb, cond-true}
use Rattle.std.proofs.lemmas.List.{append-nil}
use Rattle.lapi_base.specs.declared.script.Script.{Script}
use Rattle.lapi_base.specs.declared.statement.Statement.{Statement}
use Rattle.lapi_base.specs.declared.statement.Statement.TheVariants.{Store, Put, Get, Putv, Getv, Rmw, Am, Wait, Set, Read, Fence, Gfence}
use Rattle.lapi_base.specs.declared.rule.Rules.{Rules}
use Rattle.lapi_base.specs.declared.event.Event.{Event}
use Rattle.lapi_base.specs.declared.event.Event.TheVariants.{Issue, Refuse, Enter, Pass, Copy, Head, Land, Begin, End}
use Rattle.lapi_base.specs.Record.Operations.{statement}
use Rattle.lapi_base.specs.Record.Counters.{count, read_by, reads}
use Rattle.lapi_base.specs.Record.Refusals.{next, refusals}
use Rattle.lapi_base.specs.Record.Atomic.{Atomic}
use Rattle.lapi_base.specs.Record.WorldView.{HoldsOfRecords}
use Rattle.lapi_base.specs.Laws.Rising.{RiseFrom, StatementsRise}
use Rattle.lapi_laws.proofs.Backward.{Atomic-head, Atomic-tail, next-later}
use Rattle.lapi_parts.proofs.Records.{record-sound}

-- they rise from s, and are below n
abbrev RiseBetween : {X : Type 0} → (s n : ℕ) → List (ℕ × X) → Type 0
RiseBetween s n [] = s ≤ n
RiseBetween s n (x ∷ xs) = (s ≤ x.0) × RiseBetween (suc x.0) n xs

between-rise : {X : Type 0} (s n : ℕ) (xs : List (ℕ × X)) → RiseBetween s n xs → RiseFrom s xs
between-rise s n [] h = tt
between-rise s n (x ∷ xs) h = (h.0, between-rise (suc x.0) n xs h.1)

between-more : {X : Type 0} (s n m : ℕ) (xs : List (ℕ × X)) → n ≤ m → RiseBetween s n xs → RiseBetween s m xs
between-more s n m [] le h = omega (arith, le, h)
between-more s n m (x ∷ xs) le h = (h.0, between-more (suc x.0) n m xs le h.1)

between-last : {X : Type 0} (s n : ℕ) (xs : List (ℕ × X)) (v : X) → RiseBetween s n xs → RiseBetween s (suc n) (xs ++ (n, v) ∷ [])
between-last s n [] v h = (h, (let q : suc n ≤ suc n = omega arith in q))
between-last s n (x ∷ xs) v h = (h.0, between-last (suc x.0) n xs v h.1)

-- none more of this statement
between-none : {X : Type 0} (s n : ℕ) (xs : List (ℕ × X)) → RiseBetween s n xs → RiseBetween s n (xs ++ [])
between-none s n xs h = subst (RiseBetween s n) (sym (append-nil xs)) h

module _ (script : Script) (rules : Rules) (t : ℕ) where
  -- the next statement goes on past it
  grown : (a n : ℕ) → a ≡ t → suc n ≤ cond (t == a) (suc n) n
  grown a n e = subst (λ m. suc n ≤ m) (sym (cond-true (t == a) (suc n) n (eq-eqb t a (sym e)))) (let q : suc n ≤ suc n = omega arith in q)

  -- what a task's next statement adds, where the task goes on to this one
  added : {X : Type 0} (J : List Event) (a i to : ℕ) (xs more : List (ℕ × X)) → i ≡ next J a → next J t ≤ to → (a ≡ t → suc (next J t) ≤ to)
      → ((n : ℕ) → i ≡ n → RiseBetween 0 n xs → RiseBetween 0 (suc n) (xs ++ more)) → RiseBetween 0 (next J t) xs → RiseBetween 0 to (xs ++ cond (a == t) more [])
  added {X = X} J a i to xs more turn le past last h = elim (a == t) as (λ b. (a == t) ≡ b → RiseBetween 0 to (xs ++ cond b more [])) [
    | true ↦ λ e. let own = eqb-true a t e in between-more 0 (suc (next J t)) to (xs ++ more) (past own) (last (next J t) (turn ∙ ap (next J) own) h)
    | false ↦ λ e. between-none 0 to xs (between-more 0 (next J t) to xs le h)
  ] refl

  refused-last : {X : Type 0} (i : ℕ) (v : X) (xs : List (ℕ × X)) (n : ℕ) → i ≡ n → RiseBetween 0 n xs → RiseBetween 0 (suc n) (xs ++ (i, v) ∷ [])
  refused-last i v xs n e h = subst (λ k. RiseBetween 0 (suc n) (xs ++ (k, v) ∷ [])) (sym e) (between-last 0 n xs v h)

  silent : (xs : List (ℕ × ℕ)) (n : ℕ) → RiseBetween 0 n xs → RiseBetween 0 (suc n) (xs ++ [])
  silent xs n h = between-none 0 (suc n) xs (between-more 0 n (suc n) xs (let q : n ≤ suc n = omega arith in q) h)

  read-last : (J : List Event) (a i : ℕ) (s : Statement) (xs : List (ℕ × ℕ)) (n : ℕ) → i ≡ n → RiseBetween 0 n xs → RiseBetween 0 (suc n) (xs ++ read_by script rules J a i s)
  read-last J a i (Read counter) xs n e h = refused-last i (count script rules J a counter) xs n e h
  read-last J a i (Store at bytes) xs n e h = silent xs n h
  read-last J a i (Put target to from len tgt org cmpl) xs n e h = silent xs n h
  read-last J a i (Get target from to len tgt org) xs n e h = silent xs n h
  read-last J a i (Putv target to from tgt org cmpl) xs n e h = silent xs n h
  read-last J a i (Getv target from to tgt org) xs n e h = silent xs n h
  read-last J a i (Rmw target op at in1 in2 prev org) xs n e h = silent xs n h
  read-last J a i (Am target handler header from len tgt org cmpl) xs n e h = silent xs n h
  read-last J a i (Wait counter value) xs n e h = silent xs n h
  read-last J a i (Set counter value) xs n e h = silent xs n h
  read-last J a i Fence xs n e h = silent xs n h
  read-last J a i Gfence xs n e h = silent xs n h
  read-last J a i (Statement.Addr at) xs n e h = silent xs n h

  -- nothing more to list
  as-listed : {X : Type 0} (e : Event) (J : List Event) (xs : List (ℕ × X)) → RiseBetween 0 (next J t) xs → RiseBetween 0 (next (e ∷ J) t) xs
  as-listed e J xs h = between-more 0 (next J t) (next (e ∷ J) t) xs (next-later e J t) h

  refusals-rise : (J : List Event) → Atomic script rules J → RiseBetween 0 (next J t) (refusals J t)
  unfolding next refusals
  refusals-rise [] h = let q : 0 ≤ 0 = omega arith in q
  refusals-rise (Issue a i ∷ J) h = as-listed (Issue a i) J (refusals J t) (refusals-rise J (Atomic-tail script rules (Issue a i) J h))
  refusals-rise (Refuse a i why ∷ J) h =
      added J a i (next (Refuse a i why ∷ J) t) (refusals J t) ((i, why) ∷ []) (Atomic-head script rules (Refuse a i why) J h).order.0 (next-later (Refuse a i why) J t) (grown a (next J t)) (refused-last i why (refusals J t)) (refusals-rise J (Atomic-tail script rules (Refuse a i why) J h))
  refusals-rise (Pass a i ∷ J) h = as-listed (Pass a i) J (refusals J t) (refusals-rise J (Atomic-tail script rules (Pass a i) J h))
  refusals-rise (Enter a i ∷ J) h = refusals-rise J (Atomic-tail script rules (Enter a i) J h)
  refusals-rise (Copy m ∷ J) h = refusals-rise J (Atomic-tail script rules (Copy m) J h)
  refusals-rise (Head m ∷ J) h = refusals-rise J (Atomic-tail script rules (Head m) J h)
  refusals-rise (Land m ∷ J) h = refusals-rise J (Atomic-tail script rules (Land m) J h)
  refusals-rise (Begin m a w ∷ J) h = refusals-rise J (Atomic-tail script rules (Begin m a w) J h)
  refusals-rise (End m a w ∷ J) h = refusals-rise J (Atomic-tail script rules (End m a w) J h)

  reads-rise : (J : List Event) → Atomic script rules J → RiseBetween 0 (next J t) (reads script rules J t)
  unfolding next reads
  reads-rise [] h = let q : 0 ≤ 0 = omega arith in q
  reads-rise (Issue a i ∷ J) h =
      added J a i (next (Issue a i ∷ J) t) (reads script rules J t) (read_by script rules J a i (statement script a i)) (Atomic-head script rules (Issue a i) J h).order.0 (next-later (Issue a i) J t) (grown a (next J t)) (read-last J a i (statement script a i) (reads script rules J t)) (reads-rise J (Atomic-tail script rules (Issue a i) J h))
  reads-rise (Refuse a i why ∷ J) h = as-listed (Refuse a i why) J (reads script rules J t) (reads-rise J (Atomic-tail script rules (Refuse a i why) J h))
  reads-rise (Pass a i ∷ J) h = as-listed (Pass a i) J (reads script rules J t) (reads-rise J (Atomic-tail script rules (Pass a i) J h))
  reads-rise (Enter a i ∷ J) h = reads-rise J (Atomic-tail script rules (Enter a i) J h)
  reads-rise (Copy m ∷ J) h = reads-rise J (Atomic-tail script rules (Copy m) J h)
  reads-rise (Head m ∷ J) h = reads-rise J (Atomic-tail script rules (Head m) J h)
  reads-rise (Land m ∷ J) h = reads-rise J (Atomic-tail script rules (Land m) J h)
  reads-rise (Begin m a w ∷ J) h = reads-rise J (Atomic-tail script rules (Begin m a w) J h)
  reads-rise (End m a w ∷ J) h = reads-rise J (Atomic-tail script rules (End m a w) J h)

pub records-rise : HoldsOfRecords (λ script rules r. StatementsRise script rules r.journal)
records-rise script rules r is t =
    let atomic = (record-sound script rules r is).atomic in
    (between-rise 0 (next r.journal t) (refusals r.journal t) (refusals-rise script rules t r.journal atomic), between-rise 0 (next r.journal t) (reads script rules r.journal t) (reads-rise script rules t r.journal atomic))
