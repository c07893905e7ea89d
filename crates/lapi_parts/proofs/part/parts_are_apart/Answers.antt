use Rattle.lapi_parts.proofs.OtherTasks.{others-stay, events-own-task}
use Rattle.lapi_parts.proofs.part.parts_are_apart.Goals as goal

pub returns-clause-others : goal.returns-clause-others
returns-clause-others c = others-stay

pub returns-clause-own : goal.returns-clause-own
returns-clause-own c = events-own-task
