use Rattle.std.proofs.Common.{◌≡◌, ◌++◌}
use Rattle.lapi_flush.specs.Counted.{steps_each}
use Rattle.lapi_array.specs.Counting.{calls_of}
use Rattle.lapi_array.proofs.schedule.calls.Given as goal

abbrev pub invariant-loop-task : goal.invariant-loop-task
invariant-loop-task l = l.lines ≡ l.fn.lines ++ steps_each (calls_of l.plan l.k) l.task
