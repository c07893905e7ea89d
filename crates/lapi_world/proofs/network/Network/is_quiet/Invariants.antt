use Rattle.std.proofs.Common.{◌≡◌, true}
use Rattle.lapi_base.specs.declared.script.Script.{Script}
use Rattle.lapi_base.specs.declared.rule.Rules.{Rules}
use Rattle.lapi_base.specs.Record.Below.{every_below}
use Rattle.lapi_base.specs.Record.Wires.{Run}
use Rattle.lapi_base.specs.Record.WorldView.{IsRecord}
use Rattle.lapi_world.specs.Stands.{Stands}
use Rattle.lapi_task.specs.Still.{is_still}
use Rattle.lapi_world.proofs.network.Network.is_quiet.Given as goal

abbrev pub invariant-loop-task : goal.invariant-loop-task
invariant-loop-task l = (script : Script) (rules : Rules) (r : Run) → IsRecord script rules r → Stands script rules l.self r → every_below l.task-index (is_still script rules r) ≡ true
