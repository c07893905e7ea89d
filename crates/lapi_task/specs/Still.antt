-- Whether a task has nothing to do, and owes nothing. This is the project's own.
use Rattle.std.specs.Prelude.{ℕ, Bool, ◌&&◌, not}
use Rattle.std.specs.List.{list_all}
use Rattle.lapi_base.specs.declared.rule.Rules.{Rules}
use Rattle.lapi_base.specs.declared.script.Script.{Script}
use Rattle.lapi_base.specs.Record.Below.{every_below}
use Rattle.lapi_base.specs.Record.Final.{is_empty, is_idle, is_told}
use Rattle.lapi_base.specs.Record.Wires.{Run, to_send}

module _ (script : Script) (rules : Rules) (r : Run) (t : ℕ) where
  -- all that task t put on the wire to b is acknowledged, and a Poll would add nothing to it
  abbrev pub is_heard : (b : ℕ) → Bool
  is_heard b = list_all (is_told script rules r t b) (r.wire t b) && is_empty (to_send script rules r r.journal t b)

  -- No job of task t waits or runs, a Poll would copy nothing, all that it sent is acknowledged, and it owes no task an
  -- acknowledgement.
  abbrev pub is_still : Bool
  is_still = is_idle script rules r t && every_below script.tasks is_heard && every_below script.tasks (λ a. not (r.owed a t))
