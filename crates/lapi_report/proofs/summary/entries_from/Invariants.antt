use Rattle.std.proofs.Common.{◌≡◌, ◌*◌, ◌≤◌, length}
use Rattle.std.specs.List.{sum_by}
use Rattle.lapi_base.specs.Record.Operations.{numbers_below}
use Rattle.lapi_base.specs.Record.WorldView.{view_record}
use Rattle.lapi_report.proofs.summary.entries_from.Given as goal

abbrev pub invariant-loop-b : goal.invariant-loop-b
invariant-loop-b l = record {
  count : l.count ≡ sum_by (λ b. length ((view_record l.world).wire l.a b)) (numbers_below l.b);
  few : l.count ≤ 18446744073709551615 * l.b;
}
