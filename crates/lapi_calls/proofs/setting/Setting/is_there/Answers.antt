use Rattle.std.proofs.Common.{◌∙◌, ◌&&◌, sym}
use Rattle.lapi_base.specs.Record.Atomic.{has_statement}
use Rattle.lapi_base.specs.Record.Operations.{statement}
use Rattle.lapi_calls.specs.Setting.{rules_of, has_event}
use Rattle.lapi_calls.proofs.SettingLaws.{there_by}
use Rattle.lapi_calls.proofs.setting.Setting.is_there.Goals as goal

pub returns-in-Some : goal.returns-in-Some
returns-in-Some c =
    let script = c.args.self.now.script.now in
    let rules = rules_of c.args.self.now in
    let e = c.args.event.now in
    let a = c.place_of-task.ensures.task in
    let i = c.place_of-task.ensures.statement in
    let s = c.in-Some.ensures.1 ∙ (λ k. statement script (a k) (i k)) in
    let there = sym c.in-Some.ensures.0 ∙ (λ k. has_statement script rules (a k) (i k)) in
    c.has_event.ensures ∙ (λ k. there k && has_event script rules e (s k)) ∙ sym (there_by script rules e)
