-- A script and a schedule as one input.
use Rattle.std.specs.Prelude.{List}
use Rattle.lapi_base.specs.declared.schedule.Line.{Line}
use Rattle.lapi_base.specs.declared.script.Script.{Script}
use Rattle.lapi_base.specs.declared.input.Input.{Input}
use Rattle.lapi_base.specs.Packet.Spelling.{spells_packet}
use Rattle.lapi_base.specs.Record.Valid.{ValidScript, ValidSchedule}

abbrev pub input_of : Script → List Line → Input
input_of script schedule = record { script = script; schedule = schedule }

-- within all limits
abbrev pub IsWritable : Input → Type 0
IsWritable x = ValidScript x.script × ValidSchedule x.script spells_packet x.schedule
