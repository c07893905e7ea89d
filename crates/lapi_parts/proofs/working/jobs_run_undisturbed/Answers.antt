use Rattle.lapi_parts.proofs.LineEvents.{workers-stay, held-stay}
use Rattle.lapi_parts.proofs.working.jobs_run_undisturbed.Goals as goal

pub returns-clause-workers : goal.returns-clause-workers
returns-clause-workers c = workers-stay

pub returns-clause-held : goal.returns-clause-held
returns-clause-held c = held-stay
