use Rattle.std.proofs.Common.{◌≡◌, ◌*◌, ◌≤◌}
use Rattle.std.specs.List.{sum_by}
use Rattle.lapi_base.specs.Output.SummaryText.{entries_from}
use Rattle.lapi_base.specs.Record.Operations.{numbers_below}
use Rattle.lapi_base.specs.Record.WorldView.{view_record}
use Rattle.lapi_report.proofs.summary.entries.Given as goal

abbrev pub invariant-loop-a : goal.invariant-loop-a
invariant-loop-a l = record {
  count : l.count ≡ sum_by (entries_from l.world.script (view_record l.world)) (numbers_below l.a);
  few : l.count ≤ 79228162514264337593543950335 * l.a;
}
