use Rattle.std.proofs.Common.{◌≡◌, ◌++◌}
use Rattle.lapi_flush.specs.Counted.{counted_sweep, sweeps_counts}
use Rattle.lapi_blocks.specs.Plans.{tasks_of}
use Rattle.lapi_blocks.specs.PlanCounts.{plan_counts}
use Rattle.lapi_array.specs.Counting.{entries_of, sweep_number, new_of, Stand}
use Rattle.lapi_array.proofs.schedule.sweep.Given as goal

abbrev pub invariant-loop-task : goal.invariant-loop-task
invariant-loop-task l = record {
  lines : l.lines ≡ l.fn.lines ++ counted_sweep (tasks_of l.plan) (sweeps_counts (tasks_of l.plan) (plan_counts l.plan l.k) (new_of l.plan l.k) (sweep_number l.sweep)) (new_of l.plan l.k (sweep_number l.sweep)) l.task;
  stand : Stand l.plan l.k (sweep_number l.sweep) l.task (entries_of l.entries);
}
