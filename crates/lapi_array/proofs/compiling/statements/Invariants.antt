use Rattle.std.proofs.Common.{◌≡◌}
use Rattle.lapi_blocks.specs.Plans.{first_statements}
use Rattle.lapi_array.proofs.compiling.statements.Given as goal

abbrev pub invariant-loop-k : goal.invariant-loop-k
invariant-loop-k l = l.list ≡ first_statements l.plan l.k l.task
