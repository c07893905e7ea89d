-- The first statement whose messages wait to be copied, and what waits once they were.
use Rattle.std.proofs.Common.{◌≡◌, ℕ, ◌<◌, Bool, true, List, ◌∷◌, ◌++◌, length, Option, Some, None, sym, ap, ◌∙◌, subst}
use Rattle.std.specs.Prelude.{slice_get, option_to_list}
use Rattle.std.specs.List.{AllByRecursion}
use Rattle.lapi_base.specs.declared.script.Script.{Script}
use Rattle.lapi_base.specs.declared.rule.Rules.{Rules}
use Rattle.lapi_base.specs.declared.statement.Statement.{Statement}
use Rattle.lapi_base.specs.Record.Acts.{followed}
use Rattle.lapi_base.specs.Record.Below.{below}
use Rattle.lapi_base.specs.Record.Operations.{statement, statements}
use Rattle.lapi_base.specs.Record.Wires.{Run}
use Rattle.lapi_base.proofs.BelowLaws.{below-all}
use Rattle.lapi_base.proofs.ListLaws.{get-some}
use Rattle.lapi_task.specs.declared.task.Task.{Task}
use Rattle.lapi_task.specs.Copies.{copies_of, CopiesNext}
use Rattle.lapi_task.specs.StandsFor.{is_uncopied}
use Rattle.lapi_task.proofs.Copying.CopyLists.{below-less, own-copied, others-uncopied}
use Rattle.lapi_task.proofs.Stepping.Forms.{statement-is}

-- what the first of the listed numbers is
first-of : (n i : ℕ) (p : ℕ → Bool) (rest : List ℕ) → below n p ≡ i ∷ rest → (i < n) × (p i ≡ true)
first-of n i p rest e = (subst (AllByRecursion (λ k. (k < n) × (p k ≡ true))) e (below-all n p)).0

module _ (script : Script) (rules : Rules) (t : ℕ) (task : Task) (r : Run) (i : ℕ) (rest : List ℕ) (h : CopiesNext script rules t task r i rest) where
  listed : below (length (statements script t)) (is_uncopied script r.journal t) ≡ i ∷ rest
  listed = sym h.stands.holds.uncopied ∙ h.first

  -- it is one of the task's statements, and has messages to copy,
  pub first-is : (i < length (statements script t)) × (is_uncopied script r.journal t i ≡ true)
  first-is = first-of (length (statements script t)) i (is_uncopied script r.journal t) rest listed

  -- and then the rest wait.
  pub uncopied-then : below (length (statements script t)) (is_uncopied script (followed r.journal (copies_of script r.journal t i)) t) ≡ rest
  uncopied-then =
      below-less (length (statements script t)) (is_uncopied script r.journal t) (is_uncopied script (followed r.journal (copies_of script r.journal t i)) t) i rest listed
      (own-copied script t r.journal i) (λ k apart. others-uncopied script t r.journal i k apart)

-- ---- the first number, taken off its list

pub popped-is : (o : Option ℕ) (old new rest : List ℕ) (x i : ℕ) → old ≡ option_to_list o ++ new → o ≡ Some x → old ≡ i ∷ rest → (x ≡ i) × (new ≡ rest)
popped-is None old new rest x i made is first = absurd (cc)
popped-is (Some y) old new rest x i made is first =
    let same : y ∷ new ≡ i ∷ rest = sym made ∙ first in
    ((let q : x ≡ i = cc in q), (let q : new ≡ rest = cc in q))

-- ---- the statement of the number

module _ (script : Script) (t i : ℕ) (list : List Statement) (same : list ≡ statements script t) (within : i < length (statements script t)) where
  there : (s : Statement) × (slice_get list i ≡ Some s) × (statement script t i ≡ s)
  there =
      let some = get-some (statements script t) i within in
      (some.0, ap (λ (xs : List Statement). slice_get xs i) same ∙ some.1, statement-is script t i some.0 some.1)

  -- it is there,
  pub no-statement : (o : Option Statement) → o ≡ slice_get list i → o ≡ None → ⊥
  no-statement o made is = let e : None ≡ Some there.0 = sym is ∙ made ∙ there.1 in absurd (cc)

  -- and is the record's
  pub found : (s : Statement) → Some s ≡ slice_get list i → s ≡ statement script t i
  found s made = let e : Some s ≡ Some there.0 = made ∙ there.1 in (let q : s ≡ there.0 = cc in q) ∙ sym there.2
