use Rattle.std.proofs.Common.{◌≡◌, length, map}
use Rattle.lapi_base.specs.Record.Operations.{numbers_below}
use Rattle.lapi_blocks.specs.Plans.{first_statements}
use Rattle.lapi_array.proofs.compiling.array_script.Given as goal

abbrev pub invariant-loop-task : goal.invariant-loop-task
invariant-loop-task l = l.lists ≡ map (first_statements l.plan (length l.plan.ops)) (numbers_below l.task)
