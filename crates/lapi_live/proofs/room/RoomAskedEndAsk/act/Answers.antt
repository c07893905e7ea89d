use Rattle.lapi_live.proofs.Taking.{may_line, may_end}
use Rattle.lapi_live.proofs.room.RoomAskedEndAsk.act.Goals as goal

pub end-answer-requires : goal.end-answer-requires
end-answer-requires c = record { line = may_end c.args.self.now.world c.args.ask.n c.args.ask.finished c.requires }

pub returns-clause-answer : goal.returns-clause-answer
returns-clause-answer c = may_line c.args.self.now.world c.end-answer.new.self c.args.ask.n c.end-answer.result c.end-answer.ensures.ok c.end-answer.ensures.reply
