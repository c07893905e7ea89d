use Rattle.std.proofs.Common.{◌≡◌, false, replicate}
use Rattle.lapi_task.proofs.task.stepping.none_owed.Given as goal

abbrev pub invariant-loop-task : goal.invariant-loop-task
invariant-loop-task l = l.owed.items ≡ replicate l._task false
