use Rattle.std.proofs.Common.{rules}
use Rattle.lapi_tool.proofs.Feeding.{landed-whole, landed-faulty}
use Rattle.lapi_tool.proofs.landings.answer_reading.Goals as goal

pub returns-in-Ok-clause-answer : goal.returns-in-Ok-clause-answer
returns-in-Ok-clause-answer g c = λ left rest fed.
    let told = c.end-in-Ok.ensures.answer _ _ _ (rw (c.frames.ensures, c.landings.ensures) at c.write_landings.ensures.written.text) in
    landed-whole c.args.reader.now left rest _ _ _ c.end.result c.end.ensures.ended c.end.ensures.fault c.in-Ok.is told fed

pub returns-in-Err-clause-answer : goal.returns-in-Err-clause-answer
returns-in-Err-clause-answer g c = λ left rest fed.
    landed-faulty c.args.reader.now left rest _ _ _ c.end.result c.in-Err.fault (search rules) c.end.ensures.ended c.end.ensures.fault c.in-Err.is c.refuse.ensures.answer fed
