use Rattle.lapi_parts.proofs.HeadAnswers.{handlers-answer, actives-name}
use Rattle.lapi_parts.proofs.answering.handlers_are_told.Goals as goal

pub returns-clause-answers : goal.returns-clause-answers
returns-clause-answers c = handlers-answer

pub returns-clause-counters : goal.returns-clause-counters
returns-clause-counters c = actives-name
