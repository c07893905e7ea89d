use Rattle.std.proofs.Common.{◌≡◌, ◌++◌}
use Rattle.std.specs.List.{flat_map}
use Rattle.lapi_base.specs.Record.Operations.{numbers_below}
use Rattle.lapi_base.specs.Record.WorldView.{view_record}
use Rattle.lapi_views.specs.ChartParts.{counted_after}
use Rattle.lapi_views.proofs.rows.add_counters.Given as goal

abbrev pub invariant-loop-c : goal.invariant-loop-c
invariant-loop-c l = l.rows ≡ l.fn.rows ++ flat_map (counted_after l.world.script l.world.rules l.task l.before (view_record l.world)) (numbers_below l.c)
