use Rattle.std.proofs.Common.{◌≡◌, ◌++◌}
use Rattle.std.specs.List.{flat_map}
use Rattle.lapi_base.specs.Record.Operations.{numbers_below}
use Rattle.lapi_gen.specs.Schedules.{store_steps}
use Rattle.lapi_gen.proofs.schedule.all_store_steps.Given as goal

abbrev pub invariant-loop-a : goal.invariant-loop-a
invariant-loop-a l = l.schedule ≡ l.fn.schedule ++ flat_map store_steps (numbers_below l.a)
