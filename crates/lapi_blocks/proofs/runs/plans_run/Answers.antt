use Rattle.lapi_blocks.proofs.PlanLines.{plans-run, plans-short, plans-valid}
use Rattle.lapi_blocks.proofs.runs.plans_run.Goals as goal

pub returns-clause-whole : goal.returns-clause-whole
returns-clause-whole c = plans-run

pub returns-clause-short : goal.returns-clause-short
returns-clause-short c = plans-short

pub returns-clause-valid : goal.returns-clause-valid
returns-clause-valid c = plans-valid
