use Rattle.std.proofs.Common.{◌≡◌, ◌++◌, ap, ◌∙◌, arith}
use Rattle.lapi_flush.specs.Counted.{counted_sweep, sweeps_counts}
use Rattle.lapi_blocks.specs.Plans.{tasks_of}
use Rattle.lapi_blocks.specs.PlanCounts.{plan_counts}
use Rattle.lapi_array.specs.Counting.{sweep_number, new_of, counts_at, flush_lines}
use Rattle.lapi_array.proofs.ScheduleLines.{no_flush, one_flush, whole_sweep}
use Rattle.lapi_array.proofs.ScheduleCounts.{next_sweep}
use Rattle.lapi_array.proofs.schedule.sweep.Goals as goal

pub loop-task-init : goal.loop-task-init
loop-task-init c = record {
  lines = no_flush c.args.lines.now c.args.plan.now c.args.k (sweep_number c.args.sweep);
  stand = c.requires.stand;
}

pub loop-task-preserved : goal.loop-task-preserved
loop-task-preserved c = record {
  lines =
      c.in_ok-flush.ensures
      ∙ ap (λ xs. xs ++ flush_lines c.args.plan.now c.args.k (sweep_number c.args.sweep) c.loop-task.task) c.loop-task.invariant.lines
      ∙ one_flush c.args.lines.now c.args.plan.now c.args.k (sweep_number c.args.sweep) c.loop-task.task;
  stand = c.count_flush.ensures;
}

pub returns-clause-lines : goal.returns-clause-lines
returns-clause-lines c =
    let end : c.loop-task.task ≡ tasks_of c.args.plan.now = omega (arith, c.loop-task-test.false, c.loop-task.auto.task-end, c.tasks-task-end.ensures) in
    whole_sweep c.args.lines.now c.loop-task.lines c.args.plan.now c.args.k (sweep_number c.args.sweep)
    (c.loop-task.invariant.lines ∙ ap (λ n. c.args.lines.now ++ counted_sweep (tasks_of c.args.plan.now) (sweeps_counts (tasks_of c.args.plan.now) (plan_counts c.args.plan.now c.args.k) (new_of c.args.plan.now c.args.k) (sweep_number c.args.sweep)) (new_of c.args.plan.now c.args.k (sweep_number c.args.sweep)) n) end)

pub returns-clause-entries : goal.returns-clause-entries
returns-clause-entries c =
    let end : c.loop-task.task ≡ tasks_of c.args.plan.now = omega (arith, c.loop-task-test.false, c.loop-task.auto.task-end, c.tasks-task-end.ensures) in
    λ x y lx ly.
    c.loop-task.invariant.stand x y lx ly
    ∙ ap (λ n. counts_at c.args.plan.now c.args.k (sweep_number c.args.sweep) n x y) end
    ∙ next_sweep c.args.plan.now c.args.k (sweep_number c.args.sweep) x y
