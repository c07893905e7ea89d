use Rattle.std.proofs.Common.{◌≡◌, ◌++◌}
use Rattle.std.specs.List.{flat_map}
use Rattle.lapi_base.specs.Record.Operations.{numbers_below}
use Rattle.lapi_gen.specs.Schedules.{batch_lines}
use Rattle.lapi_gen.proofs.schedule.all_batch_lines.Given as goal

abbrev pub invariant-loop-b : goal.invariant-loop-b
invariant-loop-b l = l.schedule ≡ l.fn.schedule ++ flat_map (batch_lines l.draws) (numbers_below l.b)
