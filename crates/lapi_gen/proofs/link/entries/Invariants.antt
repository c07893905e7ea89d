use Rattle.std.proofs.Common.{◌≡◌, ◌*◌, ◌≤◌}
use Rattle.std.specs.List.{sum_by}
use Rattle.lapi_base.specs.Record.Operations.{numbers_below}
use Rattle.lapi_gen.specs.Batches.{batch_of}
use Rattle.lapi_gen.specs.Schedules.{adds, most_added}
use Rattle.lapi_gen.proofs.link.entries.Given as goal

abbrev pub invariant-loop-c : goal.invariant-loop-c
invariant-loop-c l = record {
  so_far : l.total ≡ sum_by (λ c. adds (batch_of l.draws c) l.x l.y) (numbers_below l.c);
  few : l.total ≤ most_added * l.c;
}
