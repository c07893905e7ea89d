use Rattle.std.proofs.Common.{◌≡◌}
use Rattle.std.specs.List.{flat_map}
use Rattle.lapi_base.specs.Record.Operations.{numbers_below}
use Rattle.lapi_world.specs.Jobs.{AreKept}
use Rattle.lapi_views.specs.Chart.{taken_rows}
use Rattle.lapi_views.proofs.chart.rows_of.Given as goal

abbrev pub invariant-loop-n : goal.invariant-loop-n
invariant-loop-n g l = record {
  world : l.world ≡ record l.initial.world { taken = numbers_below l.n };
  jobs : AreKept l.world l.jobs;
  rows : l.rows ≡ flat_map (taken_rows l.initial.world.script l.initial.world.rules l.initial.world.schedule) (numbers_below l.n);
}
