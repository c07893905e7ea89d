use Rattle.std.proofs.Common.{◌∙◌}
use Rattle.lapi_base.specs.Record.Refusals.{refusal_by}
use Rattle.lapi_calls.specs.Entries.{is_told}
use Rattle.lapi_calls.specs.Setting.{rules_of}
use Rattle.lapi_audit.specs.Noted.{stood}
use Rattle.lapi_audit.specs.Turns as turns
use Rattle.lapi_audit.proofs.checker.Checker.reason.Goals as goal

pub returns : goal.returns
unfolding turns.reason
returns c =
    let setting = c.args.setting.now in
    let seen = c.seen.ensures in
    c.why_refused.ensures
    ∙ (λ k. refusal_by setting.script.now (rules_of setting) (is_told (turns.knows (seen.setting k).script.now (rules_of (seen.setting k)) (stood (seen.table k)) c.args.task)) c.args.task c.args.i)
