use Rattle.lapi_parts.proofs.SameParts.{told-statements, told-links, told-jobs, told-memory}
use Rattle.lapi_parts.proofs.part.parts_decide.Goals as goal

pub returns-clause-statements : goal.returns-clause-statements
returns-clause-statements c = told-statements

pub returns-clause-links : goal.returns-clause-links
returns-clause-links c = told-links

pub returns-clause-jobs : goal.returns-clause-jobs
returns-clause-jobs c = told-jobs

pub returns-clause-memory : goal.returns-clause-memory
returns-clause-memory c = told-memory
