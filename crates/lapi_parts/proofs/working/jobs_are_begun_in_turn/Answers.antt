use Rattle.lapi_parts.proofs.QueuedJobs.{queued-waiting, running-begun}
use Rattle.lapi_parts.proofs.working.jobs_are_begun_in_turn.Goals as goal

pub returns-clause-waiting : goal.returns-clause-waiting
returns-clause-waiting c = queued-waiting

pub returns-clause-running : goal.returns-clause-running
returns-clause-running c = running-begun
