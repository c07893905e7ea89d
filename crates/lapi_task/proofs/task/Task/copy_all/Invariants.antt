use Rattle.std.proofs.Common.{ℕ}
use Rattle.lapi_base.specs.declared.rule.Rules.{Rules}
use Rattle.lapi_base.specs.declared.script.Script.{Script}
use Rattle.lapi_base.specs.Record.Wires.{Run}
use Rattle.lapi_task.specs.HasEffect.{IsAt}
use Rattle.lapi_task.proofs.Copying.PollCopies.{SomeCopied}
use Rattle.lapi_task.proofs.task.Task.copy_all.Given as goal

abbrev pub invariant-loop-copy : goal.invariant-loop-copy
invariant-loop-copy l = (script : Script) (rules : Rules) (t : ℕ) (r : Run) → IsAt script rules t l.fn.self r → SomeCopied script rules t r l.self l.fn.events l.events l._copy
