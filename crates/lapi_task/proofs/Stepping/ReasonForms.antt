-- What a statement that isn't refused finds, and that a task has few statements.
use Rattle.std.proofs.Common.{◌≡◌, ℕ, ◌+◌, ◌<◌, ◌≤◌, ◌||◌, true, false, List, [], ◌∷◌, length, None, refl, ap, subst, arith, lit≤}
use Rattle.std.specs.Prelude.{not, nat_le, nat_lt}
use Rattle.std.specs.List.{AllByRecursion, list_any}
use Rattle.std.proofs.lemmas.Bool.{false≢true, not-false, or_parts, leb-true, le-leb, ltb-true}
use Rattle.lapi_base.specs.declared.piece.Piece.{Piece}
use Rattle.lapi_base.specs.declared.statement.Statement.{Statement}
use Rattle.lapi_base.specs.declared.statement.Statement.TheVariants as statements
use Rattle.lapi_base.specs.declared.script.Script.{Script}
use Rattle.lapi_base.specs.declared.rule.Rules.{Rules}
use Rattle.lapi_base.specs.declared.event.Event.{Event}
use Rattle.lapi_base.specs.Record.Operations.{statement, address, target, origin_pieces, has_join, is_gfence, is_table}
use Rattle.lapi_base.specs.Record.Operations as operations
use Rattle.lapi_base.specs.Record.Refusals.{refusal_by, refusal_of, lies_within, counters_of}
use Rattle.lapi_base.specs.Record.Valid.{ValidStatement, ValidScript}
use Rattle.lapi_base.proofs.ListLaws.{all-or}
use Rattle.lapi_laws.proofs.Shorts.{none-tests}
use Rattle.lapi_task.specs.Steps.{MayStep}

module _ (script : Script) (rules : Rules) (J : List Event) (a i : ℕ) (accepted : refusal_of script rules J a i ≡ None) where
  no-outside : list_any (λ (p : Piece). not (lies_within script (target script a i) p)) (origin_pieces (statement script a i)) ≡ false
  unfolding refusal_of refusal_by
  no-outside = (none-tests _ accepted).1.1.0

  no-missing : list_any (λ c. not (nat_lt c script.counters)) (counters_of (statement script a i)) ≡ false
  unfolding refusal_of refusal_by
  no-missing = (none-tests _ accepted).1.1.1.0

  -- a store finds its places
  store-fits : (at : ℕ) (bytes : List ℕ) → statement script a i ≡ statements.Store at bytes → at + length bytes ≤ script.memory
  unfolding address
  store-fits at bytes e =
      let none = subst (λ (s : Statement). list_any (λ (p : Piece). not (lies_within script (target script a i) p)) (origin_pieces s) ≡ false) e no-outside in
      leb-true (at + length bytes) script.memory (not-false _ (or_parts (not (nat_le (at + length bytes) script.memory)) false none).0)

  -- and what names one counter finds it,
  counter-there : (c : ℕ) → counters_of (statement script a i) ≡ c ∷ [] → c < script.counters
  counter-there c e =
      let none = subst (λ (cs : List ℕ). list_any (λ c. not (nat_lt c script.counters)) cs ≡ false) e no-missing in
      ltb-true c script.counters (not-false _ (or_parts (not (nat_lt c script.counters)) false none).0)

  -- so a statement that isn't refused may be performed, whatever its form.
  pub suits : (s : Statement) (memory counters : List ℕ) → statement script a i ≡ s → length memory ≡ script.memory → length counters ≡ script.counters → MayStep s memory counters
  suits (statements.Store at bytes) memory counters e m c = let l = store-fits at bytes e in omega (arith, l, m)
  suits (statements.Wait counter value) memory counters e m c = let l = counter-there counter (ap counters_of e) in omega (arith, l, c)
  suits (statements.Set counter value) memory counters e m c = let l = counter-there counter (ap counters_of e) in omega (arith, l, c)
  suits (statements.Read counter) memory counters e m c = let l = counter-there counter (ap counters_of e) in omega (arith, l, c)
  suits _ memory counters e m c = tt

  -- a collective call that isn't refused has a round
  address-fits : (at : ℕ) → statement script a i ≡ statements.Addr at → at ≤ script.memory
  unfolding address
  address-fits at e =
      let none = subst (λ (s : Statement). list_any (λ (p : Piece). not (lies_within script (target script a i) p)) (origin_pieces s) ≡ false) e no-outside in
      let l = leb-true (at + 0) script.memory (not-false _ (or_parts (not (nat_le (at + 0) script.memory)) false none).0) in
      omega (arith, l)

  pub has-round : (s : Statement) → statement script a i ≡ s → has_join s ≡ true → (is_gfence s || is_table script s) ≡ true
  has-round statements.Gfence e joins = refl
  has-round (statements.Addr at) e joins = le-leb at script.memory (address-fits at e)
  has-round _ e joins = absurd (false≢true joins)

-- a task has few statements
pub few-statements : (script : Script) → ValidScript script → (a : ℕ) → length (operations.statements script a) ≤ 512
few-statements script p a = all-or (λ (list : List Statement). length list ≤ 512) script.lists a [] (firsts script.lists p.lists) (lit≤ tt)
  where
    firsts : (lists : List (List Statement)) → AllByRecursion (λ (list : List Statement). (length list ≤ 512) × AllByRecursion ValidStatement list) lists → AllByRecursion (λ (list : List Statement). length list ≤ 512) lists
    firsts [] h = tt
    firsts (x ∷ xs) h = (h.0.0, firsts xs h.1)
