use Rattle.lapi_live.proofs.Taking.{may_line}
use Rattle.lapi_live.proofs.room.RoomAskedLineAsk.act.Goals as goal

pub returns-clause-answer : goal.returns-clause-answer
returns-clause-answer g c = may_line c.args.self.now.world c.line-answer.new.self c.args.ask.n c.line-answer.result c.line-answer.ensures.ok c.line-answer.ensures.reply
