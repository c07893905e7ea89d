-- What the step of a collective call does.
use Rattle.std.proofs.Common.{◌≡◌, ℕ, Bool, true, false, cond, not, ◌||◌, List, [], ◌∷◌, ◌++◌, Some, None, refl, sym, ap, ◌∙◌, subst}
use Rattle.std.specs.Prelude.{slice_get}
use Rattle.std.proofs.lemmas.Bool.{false≢true, or_left}
use Rattle.std.proofs.lemmas.Option.{slice_get_within}
use Rattle.lapi_base.specs.declared.script.Script.{Script}
use Rattle.lapi_base.specs.declared.rule.Rules.{Rules}
use Rattle.lapi_base.specs.declared.head.Head.{Head}
use Rattle.lapi_base.specs.declared.statement.Statement.{Statement}
use Rattle.lapi_base.specs.declared.statement.Statement.TheVariants.{Gfence, Wait}
use Rattle.lapi_base.specs.declared.event.Event.{Event}
use Rattle.lapi_base.specs.declared.event.Event.TheVariants.{Enter, Pass}
use Rattle.lapi_base.specs.declared.reply.Reply.TheVariants.{Did, Blocked}
use Rattle.lapi_base.specs.Laws.Rounds.{HasRound}
use Rattle.lapi_base.specs.Record.Acts.{step, event_if, proposed, add_event}
use Rattle.lapi_base.specs.Record.Names.{Entered, happened}
use Rattle.lapi_base.specs.Record.Operations.{statements, statement, has_join, is_gfence, is_table}
use Rattle.lapi_base.specs.Record.Refusals.{joined, refusal_of}
use Rattle.lapi_base.specs.Record.Valid.{ValidScript}
use Rattle.lapi_base.specs.Record.Values.{values}
use Rattle.lapi_base.specs.Record.Wires.{Run, numbered, data_clear}
use Rattle.lapi_base.specs.declared.sizes.Sizes.{Sizes}
use Rattle.lapi_task.specs.declared.outcome.Outcome.{Outcome}
use Rattle.lapi_task.specs.declared.state.State.{State}
use Rattle.lapi_task.specs.declared.task.Task.{Task}
use Rattle.lapi_task.specs.HasEffect.{IsAt, HasEffect}
use Rattle.lapi_task.specs.HasRounds.{MayJoin}
use Rattle.lapi_task.specs.Joining.{IsHeadOfJoins, may_enter}
use Rattle.lapi_task.specs.Sends.{packet_at}
use Rattle.lapi_task.specs.Steps.{IsPassed, IsEntered}
use Rattle.lapi_task.proofs.Joining.EnterFields.{may-join-by}
use Rattle.lapi_task.proofs.Joining.EnterSteps.{entered-holds}
use Rattle.lapi_task.proofs.Stepping.ReasonForms.{has-round}
use Rattle.lapi_task.proofs.Stepping.StepFields.{stood-holds}
use Rattle.lapi_task.proofs.Stepping.StepLaws.{IsQuiet, atomic, step-by, named, is, here, pass-quiet, quiet-tracks, does-event, does-nothing}

module _ (script : Script) (rules : Rules) where
  enter-quiet : (t i : ℕ) (J : List Event) → IsQuiet script rules (Enter t i) J
  unfolding numbered packet_at values
  enter-quiet t i J = record { numbers = λ a b. refl; packets = λ a b n. refl }

  -- what a call proposes once it was entered, and before
  proposes-pass : (r : Run) (t i : ℕ) (s : Statement) → has_join s ≡ true → happened (Entered t i) r.journal ≡ true → proposed script rules r t i s ≡ event_if script rules (joined script r.journal t i) (Pass t i)
  proposes-pass r t i Gfence joins e = ap (λ b. cond b (event_if script rules (joined script r.journal t i) (Pass t i)) (event_if script rules (data_clear script r t i) (Enter t i))) e
  proposes-pass r t i (Statement.Addr at) joins e = ap (λ b. cond b (event_if script rules (joined script r.journal t i) (Pass t i)) (Some (Enter t i))) e
  proposes-pass r t i _ joins e = absurd (false≢true joins)

  proposes-enter : (r : Run) (t i : ℕ) (s : Statement) → has_join s ≡ true → happened (Entered t i) r.journal ≡ false → proposed script rules r t i s ≡ event_if script rules (not (is_gfence s) || data_clear script r t i) (Enter t i)
  proposes-enter r t i Gfence joins e = ap (λ b. cond b (event_if script rules (joined script r.journal t i) (Pass t i)) (event_if script rules (data_clear script r t i) (Enter t i))) e
  proposes-enter r t i (Statement.Addr at) joins e = ap (λ b. cond b (event_if script rules (joined script r.journal t i) (Pass t i)) (Some (Enter t i))) e
  proposes-enter r t i _ joins e = absurd (false≢true joins)

  -- whether a call may be entered, by its kind
  module _ (r : Run) (t i : ℕ) (s : Statement) (is : statement script t i ≡ s) (b : Bool) (kind : b ≡ is_gfence s) where
    told : b ≡ is_gfence (statement script t i)
    told = kind ∙ ap is_gfence (sym is)

    pub enters-at-once : b ≡ false → not b ≡ may_enter script r t i
    enters-at-once other = ap not other ∙ sym (or_left (not (is_gfence (statement script t i))) (data_clear script r t i) (ap not (sym told ∙ other)))

    pub enters-clear : b ≡ true → (clear : Bool) → clear ≡ data_clear script r t i → clear ≡ may_enter script r t i
    enters-clear fence clear e = e ∙ ap (λ x. not x || data_clear script r t i) (sym fence ∙ told)

-- a wait is none of these calls
no-wait : (s : Statement) → has_join s ≡ true → (counter value : ℕ) → s ≡ Wait counter value → ⊥
no-wait s joins counter value e = false≢true (sym (ap has_join e) ∙ joins)

module _ (script : Script) (rules : Rules) (p : ValidScript script) (before : Task) (t : ℕ) (r : Run) (at : IsAt script rules t before r) (call : Statement) (found : slice_get before.statements before.state.next ≡ Some call) (joins : has_join call ≡ true) (accepted : refusal_of script rules r.journal t before.state.next ≡ None) where
  abbrev place : ℕ
  place = before.state.next

  pub call-is : statement script t place ≡ call
  call-is = is script rules p before t r at call found

  pub entered-is : (b : Bool) → before.state.collective.entered ≡ b → happened (Entered t place) r.journal ≡ b
  entered-is b e = ap (λ i. happened (Entered t i) r.journal) at.stands.holds.next ∙ sym at.stands.holds.rounds.entered ∙ e

  steps : step script rules r t ≡ add_event script rules r (proposed script rules r t place call)
  steps = step-by script rules p r t place call at.stands.holds.next (here script rules p before t r at call found) accepted

  pub round-there : HasRound script t place
  round-there = (slice_get_within (statements script t) place call (here script rules p before t r at call found), subst (λ (s : Statement). (is_gfence s || is_table script s) ≡ true) (sym call-is) (has-round script rules r.journal t place accepted call call-is joins))

  -- It was entered:
  module _ (entered : before.state.collective.entered ≡ true) where
    by-joined : (b : Bool) → joined script r.journal t place ≡ b → step script rules r t ≡ add_event script rules r (event_if script rules b (Pass t place))
    by-joined b e = steps ∙ ap (add_event script rules r) (proposes-pass script rules r t place call joins (entered-is true entered)) ∙ ap (λ x. add_event script rules r (event_if script rules x (Pass t place))) e

    -- it passes where all joined its round,
    pub passes-does : (after : State) (old new : Outcome) → joined script r.journal t place ≡ true → new.entries ≡ old.entries → IsPassed before.state after old.events new.events → HasEffect script rules t r (step script rules r t) (record before { state = after }) old new
    passes-does after old new all same g =
        subst (λ x. HasEffect script rules t r x (record before { state = after }) old new) (sym (by-joined true all))
        (does-event script rules t r (Pass t place) before after before.unfinished old new (pass-quiet script rules t place r.journal) at.stands
        (named script rules p before t r at Pass old.events new.events g.past.events) same
        (stood-holds script rules t r.journal before.state after old.events new.events (λ counter value e. no-wait call joins counter value (sym call-is ∙ e)) at.stands.holds g (atomic script rules p before t r at))
        (quiet-tracks script rules t r (Pass t place) before.unfinished (pass-quiet script rules t place r.journal) (λ i. (refl, refl, refl)) at.stands.unfinished))

    pub passes-replies : joined script r.journal t place ≡ true → (step script rules r t).replies ≡ r.replies ++ Did ∷ []
    passes-replies all = ap (λ (x : Run). x.replies) (by-joined true all)

    -- and else waits.
    pub waits-does : (o : Outcome) → joined script r.journal t place ≡ false → HasEffect script rules t r (step script rules r t) before o o
    waits-does o some = subst (λ x. HasEffect script rules t r x before o o) (sym (by-joined false some)) (does-nothing script rules t r Blocked before o at.stands)

    pub waits-replies : joined script r.journal t place ≡ false → (step script rules r t).replies ≡ r.replies ++ Blocked ∷ []
    waits-replies some = ap (λ (x : Run). x.replies) (by-joined false some)

  -- It was not:
  module _ (unentered : before.state.collective.entered ≡ false) where
    by-clear : (b : Bool) → may_enter script r t place ≡ b → step script rules r t ≡ add_event script rules r (event_if script rules b (Enter t place))
    by-clear b e =
        steps ∙ ap (add_event script rules r) (proposes-enter script rules r t place call joins (entered-is false unentered))
        ∙ ap (λ (s : Statement). add_event script rules r (event_if script rules (not (is_gfence s) || data_clear script r t place) (Enter t place))) (sym call-is)
        ∙ ap (λ x. add_event script rules r (event_if script rules x (Enter t place))) e

    pub joins-may : (head : Head) → IsHeadOfJoins script t place head → MayJoin before.state.number head before.state.collective
    joins-may head is =
        subst (λ n. MayJoin n head before.state.collective) (sym at.stands.holds.number)
        (may-join-by script t r.journal place round-there p at.known call call-is joins head is (entered-is false unentered) before.state.collective at.stands.holds.rounds)

    -- it is entered where it may be,
    pub enters-does : (head : Head) → IsHeadOfJoins script t place head → (after : State) (old new : Outcome) → may_enter script r t place ≡ true → new.entries ≡ old.entries → IsEntered head before.sizes.tasks before.state after old.events new.events → HasEffect script rules t r (step script rules r t) (record before { state = after }) old new
    enters-does head is after old new may same g =
        subst (λ x. HasEffect script rules t r x (record before { state = after }) old new) (sym (by-clear true may))
        (does-event script rules t r (Enter t place) before after before.unfinished old new (enter-quiet script rules t place r.journal) at.stands
        (named script rules p before t r at Enter old.events new.events g.events) same
        (entered-holds script rules t r.journal (atomic script rules p before t r at) before.state at.stands.holds (entered-is false unentered) call call-is joins round-there head is p.tasks.0 before.sizes.tasks (ap (λ (z : Sizes). z.tasks) at.stands.calls.sizes) after old.events new.events g)
        (quiet-tracks script rules t r (Enter t place) before.unfinished (enter-quiet script rules t place r.journal) (λ i. (refl, refl, refl)) at.stands.unfinished))

    pub enters-replies : may_enter script r t place ≡ true → (step script rules r t).replies ≡ r.replies ++ Did ∷ []
    enters-replies may = ap (λ (x : Run). x.replies) (by-clear true may)

    -- and else waits.
    pub stays-does : (o : Outcome) → may_enter script r t place ≡ false → HasEffect script rules t r (step script rules r t) before o o
    stays-does o blocked = subst (λ x. HasEffect script rules t r x before o o) (sym (by-clear false blocked)) (does-nothing script rules t r Blocked before o at.stands)

    pub stays-replies : may_enter script r t place ≡ false → (step script rules r t).replies ≡ r.replies ++ Blocked ∷ []
    stays-replies blocked = ap (λ (x : Run). x.replies) (by-clear false blocked)
