-- How the record of a world grows with the lines that it takes. These are words of this project for its laws.
use Rattle.std.specs.Prelude.{◌≡◌, ℕ, List, [], ◌∷◌, ◌++◌, length, Some}
use Rattle.std.specs.List.{AllByRecursion}
use Rattle.lapi_base.specs.declared.script.Script.{Script}
use Rattle.lapi_base.specs.declared.rule.Rules.{Rules}
use Rattle.lapi_base.specs.declared.schedule.Act.{Act}
use Rattle.lapi_base.specs.declared.schedule.Line.{Line}
use Rattle.lapi_base.specs.Packet.Spelling.{spells_packet}
use Rattle.lapi_base.specs.Record.Operations.{numbers_below}
use Rattle.lapi_base.specs.Record.Wires.{Run, start}
use Rattle.lapi_base.specs.Record.Valid.{ValidAct, ValidSchedule}
use Rattle.lapi_base.specs.Record.WorldView.{act_at, acts_of, performed, record_at, record_of_all, IsRecord}

-- a world that took no line has the empty record
abbrev pub BeginsEmpty : Type 0
BeginsEmpty = (script : Script) (rules : Rules) (schedule : List Line) → record_at script rules schedule [] ≡ start

-- a line more makes of a record what its act does
abbrev pub TakesOneMore : Type 0
TakesOneMore = (script : Script) (rules : Rules) (schedule : List Line) (taken : List ℕ) (n : ℕ) (act : Act) → act_at schedule n ≡ Some act → record_at script rules schedule (taken ++ n ∷ []) ≡ performed script rules (record_at script rules schedule taken) act

-- all lines, taken in order, have the record of the whole schedule
abbrev pub TakesAll : Type 0
TakesAll = (script : Script) (rules : Rules) (schedule : List Line) → record_at script rules schedule (numbers_below (length schedule)) ≡ record_of_all script rules schedule

-- whichever lines of a valid schedule are taken, their acts are valid
abbrev pub TakesValid : Type 0
TakesValid = (script : Script) (schedule : List Line) (taken : List ℕ) → ValidSchedule script spells_packet schedule → AllByRecursion (ValidAct script spells_packet) (acts_of schedule taken)

-- The empty record is one of valid acts, and a valid act more makes one of it,
abbrev pub StartIsRecord : Type 0
StartIsRecord = (script : Script) (rules : Rules) → IsRecord script rules start

abbrev pub RecordsGoOn : Type 0
RecordsGoOn = (script : Script) (rules : Rules) (r : Run) (act : Act) → IsRecord script rules r → ValidAct script spells_packet act → IsRecord script rules (performed script rules r act)

-- and so do the lines taken of a valid schedule.
abbrev pub TakenIsRecord : Type 0
TakenIsRecord = (script : Script) (rules : Rules) (schedule : List Line) (taken : List ℕ) → ValidSchedule script spells_packet schedule → IsRecord script rules (record_at script rules schedule taken)
