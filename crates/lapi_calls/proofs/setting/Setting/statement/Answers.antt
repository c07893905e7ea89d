use Rattle.std.proofs.Common.{◌≡◌, true, false, Some, None, MatchOption, sym}
use Rattle.std.specs.Prelude.{slice_get, option_map}
use Rattle.lapi_base.specs.Record.Atomic.{has_statement}
use Rattle.lapi_base.specs.Record.Operations.{statements, statement}
use Rattle.lapi_calls.specs.Setting.{rules_of}
use Rattle.lapi_calls.proofs.SettingLaws.{there_at, absent_at}
use Rattle.lapi_calls.proofs.setting.Setting.statement.Goals as goal

pub returns : goal.returns
returns c =
    let script = c.args.self.now.script.now in
    let rules = rules_of c.args.self.now in
    let a = c.args.task in
    let i = c.args.i in
    elim c.statement_of.result as (λ o. option_map (λ s. s.now) o ≡ slice_get (statements script a) i → MatchOption o (has_statement script rules a i ≡ false) (λ s. (has_statement script rules a i ≡ true) × (s.now ≡ statement script a i))) [
      | None ↦ λ h. absent_at script rules a i (sym h)
      | Some s ↦ λ h. there_at script rules a i s.now c.requires.one_list_each (sym h)
    ] c.statement_of.ensures
