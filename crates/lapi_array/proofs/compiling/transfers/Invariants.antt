use Rattle.std.proofs.Common.{◌≡◌, ◌++◌}
use Rattle.lapi_array.specs.Owned.{moves_below}
use Rattle.lapi_array.proofs.compiling.transfers.Given as goal

abbrev pub invariant-loop-task : goal.invariant-loop-task
invariant-loop-task l = l.list ≡ l.fn.list ++ moves_below l.plan l.k l.op l.task
