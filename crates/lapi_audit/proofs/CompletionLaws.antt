-- Whether a message has a completion, by its statement.
use Rattle.std.proofs.Common.{◌≡◌, ℕ, refl}
use Rattle.lapi_base.specs.declared.script.Script.{Script}
use Rattle.lapi_base.specs.declared.rule.Rules.{Rules}
use Rattle.lapi_base.specs.Record.Operations.{statement}
use Rattle.lapi_base.specs.Record.Handlers.{has_completion, completion}
use Rattle.lapi_calls.specs.Setting.{completes}

pub completes_by : (script : Script) (rules : Rules) (a i : ℕ) → has_completion script rules a i ≡ completes rules (statement script a i)
unfolding has_completion completion
completes_by script rules a i = refl
