use Rattle.std.proofs.Common.{◌≡◌, ◌++◌, replicate}
use Rattle.lapi_gen.specs.Schedules.{step}
use Rattle.lapi_gen.proofs.schedule.store_steps.Given as goal

abbrev pub invariant-loop-i : goal.invariant-loop-i
invariant-loop-i l = l.schedule ≡ l.fn.schedule ++ replicate l._i (step l.a)
