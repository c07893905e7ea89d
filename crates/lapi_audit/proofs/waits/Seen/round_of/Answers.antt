use Rattle.std.proofs.Common.{◌∙◌}
use Rattle.lapi_audit.proofs.RoundLaws.{round-kept, rounds-rise}
use Rattle.lapi_audit.proofs.waits.Seen.round_of.Goals as goal

pub number-requires-clause-rising : goal.number-requires-clause-rising
number-requires-clause-rising c = rounds-rise c.args.self.now.setting.script.now c.args.self.now.rounds.now c.args.call c.args.a c.requires.seen.rounds

pub returns : goal.returns
returns c = c.number.ensures ∙ round-kept c.args.self.now.setting.script.now c.args.self.now.rounds.now c.args.call c.args.a c.args.i c.requires.seen.rounds
