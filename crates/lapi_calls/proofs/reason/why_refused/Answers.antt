use Rattle.std.proofs.Common.{sym, subst}
use Rattle.lapi_base.specs.Record.Valid.{ValidStatement}
use Rattle.lapi_calls.specs.Setting.{rules_of}
use Rattle.lapi_base.proofs.ValidLaws.{statement-valid}
use Rattle.lapi_calls.proofs.reason.why_refused.Goals as goal

pub refusal_of-requires-clause-statement : goal.refusal_of-requires-clause-statement
refusal_of-requires-clause-statement g c = subst ValidStatement (sym c.at.ensures) (statement-valid c.args.setting.now.script.now c.requires.script c.args.task c.args.i)

pub returns : goal.returns
returns g c =
    c.refusal_of.ensures.told c.args.setting.now.script.now (rules_of c.args.setting.now) c.args.i c.limits.ensures (record { is_statement = c.at.ensures; are_given = c.requires.given })
