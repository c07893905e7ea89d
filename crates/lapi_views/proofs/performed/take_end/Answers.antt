use Rattle.std.proofs.Common.{subst, sym}
use Rattle.lapi_world.specs.Jobs.{AreKept}
use Rattle.lapi_views.proofs.KeptJobs.{end_kept}
use Rattle.lapi_views.proofs.performed.take_end.Goals as goal

pub returns-clause-jobs : goal.returns-clause-jobs
returns-clause-jobs c =
    subst (AreKept c.end.new.self) (sym c.take-finished.ensures.left)
    (end_kept c.args.world.now c.end.new.self c.args.n c.args.task c.args.worker c.args.jobs.now c.requires.valid c.requires.line c.in_ok-end.ensures.ok.1 c.requires.jobs)
