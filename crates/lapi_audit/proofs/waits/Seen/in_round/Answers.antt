use Rattle.std.proofs.Common.{sym, ◌∙◌}
use Rattle.lapi_audit.proofs.RoundLaws.{in-round-kept, in-round-there}
use Rattle.lapi_audit.proofs.waits.Seen.in_round.Goals as goal

pub returns-clause-partner : goal.returns-clause-partner
returns-clause-partner c = c.round.ensures ∙ in-round-kept c.args.self.now.setting.script.now c.args.self.now.rounds.now c.args.call c.args.round c.args.d c.requires.seen.rounds

pub returns-clause-there : goal.returns-clause-there
returns-clause-there c = λ j is.
    let script = c.args.self.now.setting.script.now in
    in-round-there script c.args.call c.args.round c.args.d j (sym (c.round.ensures ∙ in-round-kept script c.args.self.now.rounds.now c.args.call c.args.round c.args.d c.requires.seen.rounds) ∙ is)
