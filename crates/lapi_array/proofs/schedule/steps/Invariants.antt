use Rattle.std.proofs.Common.{◌≡◌, ◌++◌}
use Rattle.lapi_flush.specs.Counted.{some_steps}
use Rattle.lapi_array.proofs.schedule.steps.Given as goal

abbrev pub invariant-loop-step : goal.invariant-loop-step
invariant-loop-step l = l.lines ≡ l.fn.lines ++ some_steps l.task l._step
