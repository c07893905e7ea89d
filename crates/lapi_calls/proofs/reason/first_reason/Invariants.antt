use Rattle.std.proofs.Common.{◌≡◌, length}
use Rattle.lapi_base.specs.Record.Refusals.{first_reason}
use Rattle.lapi_calls.proofs.reason.first_reason.Given as goal

abbrev pub invariant-loop-rest : goal.invariant-loop-rest
invariant-loop-rest l = first_reason l.rest ≡ first_reason l.fn.tests

abbrev pub decreases-loop-rest : goal.decreases-loop-rest
decreases-loop-rest l = length l.rest
