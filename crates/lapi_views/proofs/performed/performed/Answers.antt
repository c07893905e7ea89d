use Rattle.std.proofs.Common.{ap}
use Rattle.lapi_base.specs.Record.WorldView.{WorldView}
use Rattle.lapi_views.proofs.KeptJobs.{first_kept}
use Rattle.lapi_views.proofs.LinesInOrder.{first_lines, next_line}
use Rattle.lapi_views.proofs.performed.performed.Goals as goal

pub loop-n-init : goal.loop-n-init
loop-n-init g c =
    let first = ap (λ (w : WorldView). w.taken) c.in_ok-world.ensures in
    record {
      world = first_lines c.in_ok-world.world first;
      jobs = first_kept c.in_ok-world.world c.in_ok-jobs.jobs first c.in_ok-jobs.ensures;
    }

pub loop-n-preserved : goal.loop-n-preserved
loop-n-preserved g c = record {
  world = next_line c.loop-n.world c.in_ok-world.world c.loop-n.n c.take_line.new.world c.loop-n.invariant.world c.in-Ok.ensures.world;
  jobs = c.in-Ok.ensures.jobs;
}
