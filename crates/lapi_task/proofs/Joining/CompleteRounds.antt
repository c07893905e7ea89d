-- That all tasks joined the round of a call that this task has entered.
use Rattle.std.proofs.Common.{◌≡◌, ℕ, ◌<◌, ◌==◌, Bool, true, false, cond, ◌||◌, List, get_or, length, Some, refl, sym, ap, ◌∙◌, subst, arith}
use Rattle.std.specs.Prelude.{slice_get, slice_index, is_some}
use Rattle.std.proofs.lemmas.Bool.{false≢true, eqb-true}
use Rattle.std.proofs.lemmas.List.{get_or_default}
use Rattle.std.proofs.lemmas.Option.{slice_get_within}
use Rattle.lapi_base.specs.declared.script.Script.{Script}
use Rattle.lapi_base.specs.declared.rule.Rules.{Rules}
use Rattle.lapi_base.specs.declared.event.Event.{Event}
use Rattle.lapi_base.specs.declared.head.Head.{Head}
use Rattle.lapi_base.specs.declared.message.Leg.TheVariants.{Join}
use Rattle.lapi_base.specs.declared.statement.Statement.{Statement}
use Rattle.lapi_base.specs.declared.statement.Statement.TheVariants.{Gfence}
use Rattle.lapi_base.specs.Laws.Rounds.{HasRound}
use Rattle.lapi_base.specs.Record.Below.{every_below}
use Rattle.lapi_base.specs.Record.Names.{message, happened, Entered}
use Rattle.lapi_base.specs.Record.Operations.{statement, has_join, table_rounds, entry}
use Rattle.lapi_base.specs.Record.Packets.{head_by}
use Rattle.lapi_base.specs.Record.Refusals.{gfence_rounds, rounds_like, round_of, partner, join_landed}
use Rattle.lapi_base.specs.Record.Refusals as refusals
use Rattle.lapi_base.specs.Record.Wires.{Run}
use Rattle.lapi_base.proofs.BelowLaws.{every_below-same}
use Rattle.lapi_base.proofs.UptoLaws.{length-over, over-at}
use Rattle.lapi_calls.specs.Heads.{IsJoinHead}
use Rattle.lapi_collect.specs.Rounds.{Joins, joined, is_complete}
use Rattle.lapi_parts.proofs.RoundOrder.{rounds-in-order}
use Rattle.lapi_task.specs.declared.collective.Collective.{Collective}
use Rattle.lapi_task.specs.declared.task.Task.{Task}
use Rattle.lapi_task.specs.HasEffect.{IsAt}
use Rattle.lapi_task.specs.HasRounds.{has_entered, knows_join, AreJoined, HasRounds, joins_like}
use Rattle.lapi_task.specs.Joining.{JoinsNext, IsHeadOfJoins}
use Rattle.lapi_task.proofs.Joining.EnterFields.{round-few}
use Rattle.lapi_task.proofs.Joining.KnownRounds.{some-known}
use Rattle.lapi_task.proofs.Joining.JoinSteps.{call-is, entered-is, round-there}

module _ (script : Script) (t : ℕ) (J : List Event) (i : ℕ) (has : HasRound script t i) (entered : happened (Entered t i) J ≡ true) where
  module _ (rounds : (task : ℕ) → List ℕ) (value : (round task : ℕ) → ℕ) (kind : (d : ℕ) → rounds_like script (statement script t i) d ≡ rounds d) (joins : Joins) (h : AreJoined script t rounds value joins J) where
    partner-is : (d : ℕ) → partner script t i d ≡ slice_get (rounds d) (round_of script t i)
    unfolding partner
    partner-is d = ap (λ (xs : List ℕ). slice_get xs (round_of script t i)) (kind d)

    own-partner : partner script t i t ≡ Some i
    unfolding partner
    own-partner = (rounds-in-order script t i (round_of script t i) has).1 refl

    told : (d : ℕ) → is_some (joined joins d (round_of script t i)) ≡ (d == t || join_landed J t d (partner script t i d))
    told d =
        ap is_some (h.joined d (round_of script t i)) ∙ some-known (knows_join J t d (slice_get (rounds d) (round_of script t i))) (value (round_of script t i) d)
        ∙ ap (knows_join J t d) (sym (partner-is d)) ∙ by-task (d == t) refl
      where
        by-task : (b : Bool) → (d == t) ≡ b → cond b (has_entered J t (partner script t i d)) (join_landed J t d (partner script t i d)) ≡ (b || join_landed J t d (partner script t i d))
        by-task true e = ap (has_entered J t) (ap (partner script t i) (eqb-true d t e) ∙ own-partner) ∙ entered
        by-task false e = refl

    complete-is : is_complete joins (round_of script t i) ≡ refusals.joined script J t i
    unfolding refusals.joined
    complete-is =
        ap (λ n. every_below n (λ d. is_some (joined joins d (round_of script t i)))) h.tasks
        ∙ every_below-same script.tasks (λ d. is_some (joined joins d (round_of script t i))) (λ d. d == t || join_landed J t d (partner script t i d)) (λ d l. told d)

  pub all-joined : (s : Statement) → statement script t i ≡ s → has_join s ≡ true → (c : Collective) → HasRounds script t c J → is_complete (joins_like c s) (round_of script t i) ≡ refusals.joined script J t i
  all-joined Gfence e joins c h = complete-is (gfence_rounds script) (λ _ _. 0) (λ d. ap (λ (s : Statement). rounds_like script s d) e) c.fences h.fences
  all-joined (Statement.Addr at) e joins c h = complete-is (table_rounds script) (entry script) (λ d. ap (λ (s : Statement). rounds_like script s d) e) c.tables h.tables
  all-joined _ e joins c h = absurd (false≢true joins)

-- The task has the round of each statement,
module _ (script : Script) (rules : Rules) (t : ℕ) (r : Run) (task : Task) (at : IsAt script rules t task r) where
  pub round-count : length task.rounds.items ≡ length task.statements
  round-count = ap (λ (xs : List ℕ). length xs) at.stands.calls.rounds ∙ length-over (round_of script t) (length task.statements)

  pub round-at : (i : ℕ) → i < length task.statements → slice_index task.rounds.items i ≡ round_of script t i
  round-at i l = ap (λ (xs : List ℕ). slice_index xs i) at.stands.calls.rounds ∙ over-at (round_of script t) (length task.statements) i 0 l

-- and of its next one, a call that isn't refused,
module _ (task : Task) (next : JoinsNext task) where
  pub next-within : task.state.next < length task.statements
  next-within = slice_get_within task.statements task.state.next next.call next.there

  pub round-within : task.state.next < length task.rounds.items
  round-within =
      let x = next.some in
      let n = round-count x.0 x.1 x.2 x.3 task x.4 in
      let l = next-within in
      omega (arith, n, l)

  -- which is read at its place;
  pub round-read : (n : ℕ) → n ≡ get_or task.rounds.items task.state.next n → n ≡ slice_index task.rounds.items task.state.next
  round-read n e = e ∙ get_or_default task.rounds.items task.state.next n 0 round-within

  module _ (script : Script) (rules : Rules) (t : ℕ) (r : Run) (at : IsAt script rules t task r) where
    has-round-there : HasRound script t task.state.next
    has-round-there = round-there script rules at.stands.calls.valid task t r at next.call next.there next.joins (next.accepted script rules t r at)

    own-call : statement script t task.state.next ≡ next.call
    own-call = call-is script rules at.stands.calls.valid task t r at next.call next.there next.joins (next.accepted script rules t r at)

    pub round-next : slice_index task.rounds.items task.state.next ≡ round_of script t task.state.next
    round-next = round-at script rules t r task at task.state.next next-within

    -- whether all joined it,
    pub next-joined : task.state.collective.entered ≡ true → is_complete (joins_like task.state.collective next.call) (slice_index task.rounds.items task.state.next) ≡ refusals.joined script r.journal t task.state.next
    next-joined entered =
        ap (is_complete (joins_like task.state.collective next.call)) round-next
        ∙ all-joined script t r.journal task.state.next has-round-there (entered-is script rules at.stands.calls.valid task t r at next.call next.there next.joins (next.accepted script rules t r at) true entered) next.call own-call next.joins task.state.collective at.stands.holds.rounds

    -- and the head of its messages.
    pub next-head : (head : Head) → IsJoinHead (slice_index task.rounds.items task.state.next) next.call head → IsHeadOfJoins script t task.state.next head
    next-head head is d = is script (message t task.state.next (Join d)) d round-next ∙ ap (head_by script (message t task.state.next (Join d)) (Join d)) (sym own-call)

  -- There is such a round.
  pub next-small : slice_index task.rounds.items task.state.next < length (joins_like task.state.collective next.call).rounds
  next-small =
      let x = next.some in
      let at = x.4 in
      subst (λ n. n < length (joins_like task.state.collective next.call).rounds) (sym (round-next x.0 x.1 x.2 x.3 at))
      (round-few x.0 x.2 x.3.journal task.state.next (has-round-there x.0 x.1 x.2 x.3 at) at.stands.calls.valid next.call (own-call x.0 x.1 x.2 x.3 at) next.joins task.state.collective at.stands.holds.rounds)
