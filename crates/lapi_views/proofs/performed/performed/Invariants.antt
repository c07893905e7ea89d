use Rattle.std.proofs.Common.{◌≡◌}
use Rattle.lapi_base.specs.Record.Operations.{numbers_below}
use Rattle.lapi_world.specs.Jobs.{AreKept}
use Rattle.lapi_views.proofs.performed.performed.Given as goal

abbrev pub invariant-loop-n : goal.invariant-loop-n
invariant-loop-n g l = record {
  world : l.world ≡ record l.initial.world { taken = numbers_below l.n };
  jobs : AreKept l.world l.jobs;
}
