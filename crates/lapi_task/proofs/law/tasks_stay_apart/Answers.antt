use Rattle.lapi_task.proofs.Standing.Apart.{stands-by-part, stays-apart}
use Rattle.lapi_task.proofs.law.tasks_stay_apart.Goals as goal

pub returns-clause-part : goal.returns-clause-part
returns-clause-part c = stands-by-part

pub returns-clause-others : goal.returns-clause-others
returns-clause-others c = stays-apart
