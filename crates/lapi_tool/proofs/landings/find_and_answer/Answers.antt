use Rattle.lapi_tool.proofs.landings.find_and_answer.Goals as goal

pub returns-in-Ok-clause-answer : goal.returns-in-Ok-clause-answer
returns-in-Ok-clause-answer g c = c.answer_reading.ensures.answer _ _ c.in-Ok.ensures.fed
