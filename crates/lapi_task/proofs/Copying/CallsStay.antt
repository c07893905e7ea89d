-- A task keeps its calls.
use Rattle.std.proofs.Common.{◌≡◌, ℕ, List, map, length, sym, ap, ◌∙◌}
use Rattle.lapi_base.specs.declared.script.Script.{Script}
use Rattle.lapi_base.specs.declared.rule.Rules.{Rules}
use Rattle.lapi_base.specs.declared.statement.Statement.{Statement}
use Rattle.lapi_base.specs.Record.Operations.{numbers_below}
use Rattle.lapi_base.specs.Record.Refusals.{round_of}
use Rattle.lapi_task.specs.declared.task.Task.{Task}
use Rattle.lapi_task.specs.StandsFor.{HasCalls}

-- what makes its calls is all that they depend on
pub calls-kept : (script : Script) (rules : Rules) (t : ℕ) (old new : Task) → new.sizes ≡ old.sizes → new.statements ≡ old.statements → new.limits ≡ old.limits → new.rounds.items ≡ old.rounds.items → HasCalls script rules t old → HasCalls script rules t new
calls-kept script rules t old new sizes statements limits rounds h = record {
  valid = h.valid;
  rules_valid = h.rules_valid;
  sizes = sizes ∙ h.sizes;
  statements = statements ∙ h.statements;
  limits = limits ∙ h.limits;
  rounds = rounds ∙ h.rounds ∙ ap (λ (list : List Statement). map (round_of script t) (numbers_below (length list))) (sym statements);
}
