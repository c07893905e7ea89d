use Rattle.std.proofs.Common.{◌≡◌}
use Rattle.lapi_blocks.specs.PlanCounts.{counted_acts}
use Rattle.lapi_array.specs.Counting.{entries_of, Stand}
use Rattle.lapi_array.proofs.schedule.plan_lines.Given as goal

abbrev pub invariant-loop-k : goal.invariant-loop-k
invariant-loop-k l = record {
  lines : l.lines ≡ counted_acts l.plan l.k;
  stand : Stand l.plan l.k 0 0 (entries_of l.entries);
}
