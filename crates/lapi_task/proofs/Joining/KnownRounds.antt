-- What a task knows of address rounds: the entries of those that it has passed.
use Rattle.std.proofs.Common.{◌≡◌, ℕ, zero, suc, ◌+◌, ◌<◌, ◌≤◌, ◌==◌, Bool, true, false, cond, ◌&&◌, ◌||◌, ◌⊎◌, List, [], length, Some, None, refl, sym, ap, ◌∙◌, subst, ⊎_elim, arith}
use Rattle.std.specs.Prelude.{slice_get, nat_lt, is_some, unwrap_or, option_map}
use Rattle.std.proofs.lemmas.Bool.{false≢true, and_parts, and_from, both_ways, cond-true, cond-false, cond_both, or_right, eqb-true, lt-ltb, cases_lt}
use Rattle.std.proofs.lemmas.List.{get_or_past}
use Rattle.lapi_base.specs.declared.script.Script.{Script}
use Rattle.lapi_base.specs.declared.rule.Rules.{Rules}
use Rattle.lapi_base.specs.declared.statement.Statement.{Statement}
use Rattle.lapi_base.specs.declared.event.Event.{Event}
use Rattle.lapi_base.specs.Record.Atomic.{Atomic, is_issued}
use Rattle.lapi_base.specs.Record.Below.{below}
use Rattle.lapi_base.specs.Record.Names.{Issued, Refused, Entered, Passed, happened}
use Rattle.lapi_base.specs.Record.Operations.{statements, statement, is_gfence, is_addr, is_table, has_join, table_rounds, entry, given_address}
use Rattle.lapi_base.specs.Record.Refusals.{option_any, next, gfence_rounds, round_of, partner, join_landed, joined, round_passed}
use Rattle.lapi_base.specs.Record.Valid.{ValidScript}
use Rattle.lapi_base.proofs.BelowLaws.{below-member, below-none, length-below-none, length-below-suc, every_below-at, every_below-from}
use Rattle.std.proofs.lemmas.Option.{slice_get_within}
use Rattle.lapi_base.proofs.TestLaws.{eqb-refl, same_tests}
use Rattle.lapi_calls.specs.Calls.{KnowsPassed}
use Rattle.lapi_calls.specs.Entries.{AreGiven}
use Rattle.lapi_collect.specs.Rounds as rounds
use Rattle.lapi_collect.specs.declared.rounds.TheConstants.{MOST_ROUNDS}
use Rattle.lapi_laws.proofs.Backward.{behind}
use Rattle.lapi_laws.proofs.TakenStatements.{taken, kind}
use Rattle.lapi_parts.proofs.RoundOrder.{rounds-in-order, passed-are-joined}
use Rattle.lapi_task.specs.declared.collective.Collective.{Collective}
use Rattle.lapi_task.specs.HasRounds.{has_entered, knows_join, HasRounds}
use Rattle.lapi_task.proofs.Joining.EnteredCalls.{passed-entered, entered-accepted}
use Rattle.lapi_task.proofs.Stepping.ReasonForms.{few-statements}

-- few numbers below n pass a test
pub few-below : (n : ℕ) (p : ℕ → Bool) → length (below n p) ≤ n
few-below zero p = let none = length-below-none 0 p (λ k l. absurd (omega (arith, l))) in omega (arith, none)
few-below (suc n) p =
    let old = few-below n p in
    let more = length-below-suc n p in
    cond_both (p n) 1 0 (λ k. length (below (suc n) p) ≡ length (below n p) + k → length (below (suc n) p) ≤ suc n) (λ _ e. omega (arith, old, e)) (λ _ e. omega (arith, old, e)) more

-- what the task tells of addresses where it is asked
abbrev pub knows_round : Collective → ℕ → Bool
knows_round c round = nat_lt round MOST_ROUNDS && rounds.is_complete c.tables round

abbrev pub address_given : Collective → (round task : ℕ) → ℕ
address_given c round d = unwrap_or (cond (rounds.is_complete c.tables round) (rounds.joined c.tables d round) None) 0

-- a value is there where it is known
pub some-known : (b : Bool) (n : ℕ) → is_some (cond b (Some n) None) ≡ b
some-known true n = refl
some-known false n = refl

-- an address round is a collective call, and is not issued
table-joins : (script : Script) (s : Statement) → is_table script s ≡ true → (is_gfence s ≡ false) × (is_addr s ≡ true)
table-joins script (Statement.Addr at) h = (refl, refl)
table-joins script _ h = absurd (false≢true h)

table-unissued : (script : Script) (s : Statement) → is_table script s ≡ true → is_issued s ≡ true → ⊥
table-unissued script (Statement.Addr at) h g = false≢true g
table-unissued script _ h g = false≢true h

-- a task that there isn't has no address round
no-tables : (script : Script) → ValidScript script → (d : ℕ) → script.tasks ≤ d → table_rounds script d ≡ []
unfolding table_rounds
no-tables script p d past = ap (λ (list : List Statement). below (length list) (λ i. is_table script (statement script d i))) (get_or_past script.lists d [] (let n = p.one_list_each in omega (arith, n, past))) ∙ below-none 0 (λ i. is_table script (statement script d i)) (λ k l. absurd (omega (arith, l)))

table-entry : (script : Script) (round d : ℕ) → table_rounds script d ≡ [] → entry script round d ≡ 0
unfolding entry
table-entry script round d none = ap (λ (xs : List ℕ). unwrap_or (option_map (λ i. given_address (statement script d i)) (slice_get xs round)) 0) none

pub few-tables : (script : Script) → ValidScript script → (t : ℕ) → length (table_rounds script t) ≤ 512
unfolding table_rounds
few-tables script valid t =
    let some = few-below (length (statements script t)) (λ i. is_table script (statement script t i)) in
    let few = few-statements script valid t in
    omega (arith, some, few)

module _ (script : Script) (rules : Rules) (valid : ValidScript script) (J : List Event) (h : Atomic script rules J) (t : ℕ) (own : t < script.tasks) (c : Collective) (has : HasRounds script t c J) where
  abbrev knows : (d round : ℕ) → Bool
  knows d round = knows_join J t d (slice_get (table_rounds script d) round)

  known-joined : (d round : ℕ) → is_some (rounds.joined c.tables d round) ≡ knows d round
  known-joined d round = ap is_some (has.tables.joined d round) ∙ some-known (knows d round) (entry script round d)

  -- of a complete round it knows each task's Join
  complete-at : (round d : ℕ) → rounds.is_complete c.tables round ≡ true → d < script.tasks → knows d round ≡ true
  complete-at round d all l = sym (known-joined d round) ∙ every_below-at c.tables.tasks (λ d. is_some (rounds.joined c.tables d round)) d all (let n = has.tables.tasks in omega (arith, n, l))

  all-complete : (round : ℕ) → ((d : ℕ) → d < script.tasks → knows d round ≡ true) → rounds.is_complete c.tables round ≡ true
  all-complete round all = every_below-from c.tables.tasks (λ d. is_some (rounds.joined c.tables d round)) (λ d l. known-joined d round ∙ all d (let n = has.tables.tasks in omega (arith, n, l)))

  -- What it knows of a round is what the tasks gave in it.
  pub are-given : AreGiven script (knows_round c) (address_given c)
  are-given round d known =
      let all = (and_parts _ _ known).1 in
      ap (λ o. unwrap_or o 0) (cond-true (rounds.is_complete c.tables round) (rounds.joined c.tables d round) None all ∙ has.tables.joined d round)
      ∙ ⊎_elim
      (λ (l : d < script.tasks). ap (λ b. unwrap_or (cond b (Some (entry script round d)) None) 0) (complete-at round d all l))
      (λ (past : script.tasks ≤ d). let z = table-entry script round d (no-tables script valid d past) in ap (λ n. unwrap_or (cond (knows d round) (Some n) None) 0) z ∙ same-or (knows d round) 0 ∙ sym z)
      (cases_lt d script.tasks)
    where
      same-or : (b : Bool) (n : ℕ) → unwrap_or (cond b (Some n) None) n ≡ n
      same-or true n = refl
      same-or false n = refl

  -- A round that it has passed is complete.
  module _ (round i : ℕ) (at : slice_get (table_rounds script t) round ≡ Some i) where
    member : (i < length (statements script t)) × (is_table script (statement script t i) ≡ true)
    unfolding table_rounds
    member = below-member (length (statements script t)) (λ k. is_table script (statement script t k)) round i at

    is-call : has_join (statement script t i) ≡ true
    is-call = or_right _ _ (table-joins script (statement script t i) member.1).1

    round-is : round ≡ round_of script t i
    round-is =
        (rounds-in-order script t i round (member.0, or_right _ _ member.1)).0
        (subst (λ (xs : List ℕ). slice_get xs round ≡ Some i) (sym (cond-false (is_gfence (statement script t i)) (gfence_rounds script t) (table_rounds script t) (table-joins script (statement script t i) member.1).0)) at)

    partner-is : (d : ℕ) → partner script t i d ≡ slice_get (table_rounds script d) round
    unfolding partner
    partner-is d =
        ap (slice_get (cond (is_gfence (statement script t i)) (gfence_rounds script d) (table_rounds script d))) (sym round-is)
        ∙ ap (λ (xs : List ℕ). slice_get xs round) (cond-false (is_gfence (statement script t i)) (gfence_rounds script d) (table_rounds script d) (table-joins script (statement script t i) member.1).0)

    passed-knows : happened (Passed t i) J ≡ true → (d : ℕ) → d < script.tasks → knows d round ≡ true
    unfolding joined
    passed-knows d k l =
        elim (k == t) as (λ b. (k == t) ≡ b → cond b (has_entered J t (slice_get (table_rounds script k) round)) (join_landed J t k (slice_get (table_rounds script k) round)) ≡ true) [
          | true ↦ λ e. ap (λ n. has_entered J t (slice_get (table_rounds script n) round)) (eqb-true k t e) ∙ ap (has_entered J t) at ∙ passed-entered script rules J t i h is-call d
          | false ↦ λ e.
              let all = passed-are-joined script rules J h t i (table-joins script (statement script t i) member.1).1 d in
              let one = every_below-at script.tasks (λ d. d == t || join_landed J t d (partner script t i d)) k all l in
              ap (join_landed J t k) (sym (partner-is k)) ∙ (ap (λ b. b || join_landed J t k (partner script t i k)) (sym e) ∙ one)
        ] refl

    small : round < MOST_ROUNDS
    small = let l = slice_get_within (table_rounds script t) round i at in let few = few-tables script valid t in omega (arith, l, few)

    -- and what it entered it has passed, but for its next statement
    entered-passed : happened (Entered t (next J t)) J ≡ false → happened (Entered t i) J ≡ true → happened (Passed t i) J ≡ true
    entered-passed unentered d =
        let b = behind script rules (Entered t i) J h d in
        let before : i < next J t =
        ⊎_elim
        (λ (l : i < next J t). l)
        (λ (ge : next J t ≤ i). let same : i ≡ next J t = omega arith in absurd (both_ways _ unentered (subst (λ n. happened (Entered t n) J ≡ true) same d)))
        (cases_lt i (next J t))
        in
        ⊎_elim
        (λ (x : happened (Issued t i) J ≡ true). absurd (table-unissued script (statement script t i) member.1 (kind script rules (Issued t i) J h x)))
        (λ (y : (happened (Refused t i) J ≡ true) ⊎ (happened (Passed t i) J ≡ true)).
        ⊎_elim
        (λ (x : happened (Refused t i) J ≡ true). let k = kind script rules (Refused t i) J h x in let e : None ≡ Some k.1 = sym (entered-accepted script rules J h t i d k.0) ∙ k.2 in absurd (cc))
        (λ (x : happened (Passed t i) J ≡ true). x)
        y)
        (taken script rules J h t i before)

  pub passed-complete : (round : ℕ) → round_passed script J t round ≡ true → knows_round c round ≡ true
  passed-complete round =
      elim (slice_get (table_rounds script t) round) as (λ o. slice_get (table_rounds script t) round ≡ o → option_any (λ i. happened (Passed t i) J) o ≡ true → knows_round c round ≡ true) [
        | None ↦ λ at d. absurd (false≢true d)
        | Some i ↦ λ at d. and_from _ _ (lt-ltb round MOST_ROUNDS (small round i at)) (all-complete round (passed-knows round i at d))
      ] refl

  complete-passed : (round : ℕ) → happened (Entered t (next J t)) J ≡ false → knows_round c round ≡ true → round_passed script J t round ≡ true
  complete-passed round unentered known =
      elim (slice_get (table_rounds script t) round) as (λ o. slice_get (table_rounds script t) round ≡ o → has_entered J t o ≡ true → option_any (λ i. happened (Passed t i) J) o ≡ true) [
        | None ↦ λ at d. absurd (false≢true d)
        | Some i ↦ λ at d. entered-passed round i at unentered d
      ] refl (own-entered (complete-at round t (and_parts _ _ known).1 own))
    where
      own-entered : knows t round ≡ true → has_entered J t (slice_get (table_rounds script t) round) ≡ true
      own-entered k = sym (cond-true (t == t) _ _ (eqb-refl t)) ∙ k

  -- Where its next statement was not entered, it knows exactly the rounds that it has passed.
  pub knows-passed : happened (Entered t (next J t)) J ≡ false → KnowsPassed script J t (knows_round c)
  knows-passed unentered round = same_tests _ _ (complete-passed round unentered) (passed-complete round)
