use Rattle.std.proofs.Common.{◌+◌, ◌<◌, ℕ, List, length, ap, ◌∙◌, subst, sym}
use Rattle.std.specs.Prelude.{slice_get}
use Rattle.lapi_base.specs.Record.Wires.{start}
use Rattle.lapi_task.specs.declared.task.Task.{Task}
use Rattle.lapi_world.specs.Stands.{TaskAt}
use Rattle.lapi_world.proofs.Beginnings.{task-count, task-more}
use Rattle.lapi_world.proofs.network.new_tasks.Goals as goal

pub loop-t-preserved : goal.loop-t-preserved
loop-t-preserved c = record {
  count = ap length c.in_ok-push.ensures.items ∙ task-count c.loop-t.tasks.items c.in_ok-task.task c.loop-t.t c.loop-t.invariant.count;
  stand = λ rules have.
      subst (λ (tasks : List Task). (t : ℕ) → t < c.loop-t.t + 1 → TaskAt c.args.script.now rules start t (slice_get tasks t)) (sym c.in_ok-push.ensures.items)
      (task-more c.args.script.now rules c.loop-t.tasks.items c.in_ok-task.task c.loop-t.t c.loop-t.invariant.count (c.loop-t.invariant.stand rules have) (c.in_ok-task.ensures rules have.0 have.1));
}
