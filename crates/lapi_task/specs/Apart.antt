-- What a task stands for by its part of a record alone, and lines at other tasks.
use Rattle.std.specs.Prelude.{◌≡◌, ℕ, ◌==◌, false}
use Rattle.lapi_base.specs.declared.rule.Rules.{Rules}
use Rattle.lapi_base.specs.declared.script.Script.{Script}
use Rattle.lapi_base.specs.declared.schedule.Act.{Act}
use Rattle.lapi_base.specs.Record.Wires.{Run}
use Rattle.lapi_base.specs.Record.WorldView.{performed, IsRecord}
use Rattle.lapi_base.specs.Packet.Spelling.{spells_packet}
use Rattle.lapi_base.specs.Record.TaskPart.{actor, part_at}
use Rattle.lapi_base.specs.Record.Valid.{ValidAct}
use Rattle.lapi_task.specs.declared.task.Task.{Task}
use Rattle.lapi_task.specs.HasEffect.{IsAt}
use Rattle.lapi_task.specs.StandsFor.{StandsFor}

-- where task t stands for a record, it stands for the one after a line at another task
abbrev pub TasksStayApart : Type 0
TasksStayApart = (script : Script) (rules : Rules) (t : ℕ) (task : Task) (r : Run) (act : Act) → IsAt script rules t task r → ValidAct script spells_packet act → (actor act == t) ≡ false → StandsFor script rules t task (performed script rules r act)

-- where task t stands for a record, it stands for every record with the same part at t
abbrev pub StandsByPart : Type 0
StandsByPart = (script : Script) (rules : Rules) (t : ℕ) (task : Task) (r s : Run) → IsAt script rules t task r → IsRecord script rules s → part_at script t r ≡ part_at script t s → IsAt script rules t task s
