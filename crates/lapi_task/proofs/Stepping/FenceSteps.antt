-- What the step of a fence does.
use Rattle.std.proofs.Common.{◌≡◌, ℕ, true, false, List, [], ◌∷◌, ◌++◌, Some, None, refl, sym, ap, ◌∙◌, subst}
use Rattle.std.specs.Prelude.{slice_get}
use Rattle.lapi_base.specs.declared.script.Script.{Script}
use Rattle.lapi_base.specs.declared.rule.Rules.{Rules}
use Rattle.lapi_base.specs.declared.statement.Statement.TheVariants.{Fence, Wait}
use Rattle.lapi_base.specs.declared.event.Event.{Event}
use Rattle.lapi_base.specs.declared.event.Event.TheVariants.{Pass}
use Rattle.lapi_base.specs.declared.reply.Reply.TheVariants.{Did, Blocked}
use Rattle.lapi_base.specs.Record.Acts.{step, event_if, add_event, reply_with}
use Rattle.lapi_base.specs.Record.Operations.{statement}
use Rattle.lapi_base.specs.Record.Wires.{Run, data_clear}
use Rattle.lapi_task.specs.declared.outcome.Outcome.{Outcome}
use Rattle.lapi_task.specs.declared.state.State.{State}
use Rattle.lapi_task.specs.declared.task.Task.{Task}
use Rattle.lapi_task.specs.HasEffect.{IsAt, HasEffect}
use Rattle.lapi_task.specs.Steps.{IsPassed}
use Rattle.lapi_base.specs.Record.Valid.{ValidScript}
use Rattle.lapi_task.proofs.Stepping.StepFields.{stood-holds}
use Rattle.lapi_task.proofs.Stepping.StepLaws.{FindsReason, atomic, stepped, step-by, named, is, here, found-reason, pass-quiet, quiet-tracks, does-event, does-nothing}

module _ (script : Script) (rules : Rules) (p : ValidScript script) (before : Task) (t : ℕ) (r : Run) (at : IsAt script rules t before r) (found : slice_get before.statements before.state.next ≡ Some Fence) (accepted : FindsReason before Fence None) where
  abbrev place : ℕ
  place = before.state.next

  abbrev J : List Event
  J = r.journal

  is-fence : statement script t place ≡ Fence
  is-fence = is script rules p before t r at Fence found

  fenced : data_clear script r t place ≡ true → step script rules r t ≡ stepped script rules r (Pass t place)
  fenced h =
      step-by script rules p r t place Fence at.stands.holds.next (here script rules p before t r at Fence found) (found-reason script rules p before t r at Fence found None accepted)
      ∙ ap (λ b. add_event script rules r (event_if script rules b (Pass t place))) h

  waits : data_clear script r t place ≡ false → step script rules r t ≡ reply_with script rules r Blocked
  waits h =
      step-by script rules p r t place Fence at.stands.holds.next (here script rules p before t r at Fence found) (found-reason script rules p before t r at Fence found None accepted)
      ∙ ap (λ b. add_event script rules r (event_if script rules b (Pass t place))) h

  no-wait : (counter value : ℕ) → statement script t place ≡ Wait counter value → ⊥
  no-wait counter value e = let same : Fence ≡ Wait counter value = sym is-fence ∙ e in cc

  -- It passes where the data before it are done,
  pub fence-passes : (after : State) (old new : Outcome) → data_clear script r t place ≡ true → new.entries ≡ old.entries → IsPassed before.state after old.events new.events → HasEffect script rules t r (step script rules r t) (record before { state = after }) old new
  fence-passes after old new clear same g =
      subst (λ x. HasEffect script rules t r x (record before { state = after }) old new) (sym (fenced clear))
      (does-event script rules t r (Pass t place) before after before.unfinished old new (pass-quiet script rules t place J) at.stands
      (named script rules p before t r at Pass old.events new.events g.past.events) same
      (stood-holds script rules t J before.state after old.events new.events no-wait at.stands.holds g (atomic script rules p before t r at))
      (quiet-tracks script rules t r (Pass t place) before.unfinished (pass-quiet script rules t place J) (λ i. (refl, refl, refl)) at.stands.unfinished))

  pub fence-replies : data_clear script r t place ≡ true → (step script rules r t).replies ≡ r.replies ++ Did ∷ []
  fence-replies clear = ap (λ (x : Run). x.replies) (fenced clear)

  -- and waits where one is not.
  pub fence-waits : (o : Outcome) → data_clear script r t place ≡ false → HasEffect script rules t r (step script rules r t) before o o
  fence-waits o clear = subst (λ x. HasEffect script rules t r x before o o) (sym (waits clear)) (does-nothing script rules t r Blocked before o at.stands)

  pub fence-blocks : data_clear script r t place ≡ false → (step script rules r t).replies ≡ r.replies ++ Blocked ∷ []
  fence-blocks clear = ap (λ (x : Run). x.replies) (waits clear)
