use Rattle.std.proofs.Common.{◌≡◌, ℕ, true, List}
use Rattle.lapi_base.specs.declared.rule.Rules.{Rules}
use Rattle.lapi_base.specs.declared.script.Script.{Script}
use Rattle.lapi_base.specs.Record.Operations.{statement, has_join}
use Rattle.lapi_base.specs.Record.Wires.{Run}
use Rattle.lapi_task.specs.Copies.{CopiesNow}
use Rattle.lapi_task.proofs.Copying.CopyJoins.{SomeTold}
use Rattle.lapi_task.proofs.task.Task.copy_joins.Given as goal

abbrev pub invariant-loop-d : goal.invariant-loop-d
invariant-loop-d l = (script : Script) (rules : Rules) (t : ℕ) (r : Run) (rest : List ℕ) → CopiesNow script rules t l.fn.self r l.i rest → has_join (statement script t l.i) ≡ true → SomeTold script rules t l.i r l.fn.self l.self l.fn.events l.events l.d
