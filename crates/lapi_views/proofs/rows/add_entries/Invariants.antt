use Rattle.std.proofs.Common.{◌≡◌, ◌++◌}
use Rattle.std.specs.List.{flat_map}
use Rattle.lapi_base.specs.Record.Operations.{numbers_below}
use Rattle.lapi_base.specs.Record.WorldView.{view_record}
use Rattle.lapi_views.specs.ChartParts.{entries_after}
use Rattle.lapi_views.proofs.rows.add_entries.Given as goal

abbrev pub invariant-loop-b : goal.invariant-loop-b
invariant-loop-b l = l.rows ≡ l.fn.rows ++ flat_map (entries_after l.task l.before (view_record l.world)) (numbers_below l.b)
