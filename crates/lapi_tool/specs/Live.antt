-- What is told of an input whose lanes ran on threads. This is the project's own.
use Rattle.std.specs.Prelude.{◌≡◌, ℕ, ◌⊎◌, ◌++◌, Bool, true, false, List, length, reverse, Option, Result, Ok, Err}
use Rattle.std.specs.Io.KnownBytes.{Appends, Consumes, IsAtEnd}
use Rattle.lapi_base.specs.declared.input.Input.{Input}
use Rattle.lapi_base.specs.declared.rule.Rules.{Rules}
use Rattle.lapi_base.specs.declared.status.Status.{Status}
use Rattle.lapi_base.specs.Input.Reading.{Fault, read}
use Rattle.lapi_base.specs.Input.Rows.{IsInputText}
use Rattle.lapi_base.specs.Output.CommandAnswers.{usage_answer, fault_answer, clash_answer, live_answer}
use Rattle.lapi_base.specs.Output.LiveText.{took_text, live_text}
use Rattle.lapi_base.specs.Output.ReportText.{report_text}
use Rattle.lapi_base.specs.Record.Atomic.{AtomicInTime}
use Rattle.lapi_base.specs.Record.Lanes.{IsFirstClash, IsInterleaving, WorkersKeepLanes}
use Rattle.lapi_base.specs.Record.WorldView.{WorldView, record_at, view_record}
use Rattle.lapi_tool.specs.Outcomes.{CommandGives, IsSilent, WasRead}

-- no worker has lines in two lanes, and the lines taken are an interleaving of the lanes: they were told, and their report
abbrev pub TellsLanes : Rules → Input → (held now : Option (List ℕ)) → Status → Type 0
TellsLanes rules x held now result = WorkersKeepLanes x.schedule × ((taken : List ℕ) × IsInterleaving x.schedule taken × CommandGives (live_answer rules x taken) held now result)

-- the worker of the first line that clashes was told
abbrev pub NamesClash : Input → (held now : Option (List ℕ)) → Status → Type 0
NamesClash x held now result = (t w n : ℕ) × IsFirstClash x.schedule t w n × CommandGives (clash_answer t w) held now result

-- the lanes of an input ran, or clash; or the first fault was told
abbrev pub LiveTells : Rules → Result Input Fault → (held now : Option (List ℕ)) → Status → Type 0
LiveTells rules (Ok x) held now result = TellsLanes rules x held now result ⊎ NamesClash x held now result
LiveTells rules (Err fault) held now result = CommandGives (fault_answer fault) held now result

-- nothing was written, since the source couldn't be read or memory ran out; or the source was read, and this was told
abbrev pub IsLiveTold : Rules → (left rest held now : Option (List ℕ)) → Status → Type 0
IsLiveTold rules left rest held now result = IsSilent result held now ⊎ ((bytes : List ℕ) × WasRead left rest bytes × LiveTells rules (read bytes) held now result)

-- the words ask for that, or for nothing that there is
abbrev pub IsLiveAnswered : Rules → (asked : Bool) → (left rest held now : Option (List ℕ)) → Status → Type 0
IsLiveAnswered rules false left rest held now result = CommandGives usage_answer held now result × (rest ≡ left)
IsLiveAnswered rules true left rest held now result = IsLiveTold rules left rest held now result

-- The whole source is the text of an input; the lines taken are an interleaving of its lanes; these lines were appended,
-- and then the report of their record; and the journal of that record is one of the atomic message machine.
pub record IsLiveReported (rules : Rules) (left rest held now : Option (List ℕ)) : Type 0 where
  pub bytes : List ℕ
  pub x : Input
  pub taken : List ℕ
  pub read : Consumes left rest bytes × IsAtEnd rest
  pub reads : IsInputText x bytes
  pub interleaved : IsInterleaving x.schedule taken
  pub written : Appends held now (live_text rules x taken)
  pub atomic : AtomicInTime x.script rules (reverse (record_at x.script rules x.schedule taken).journal)

-- the world of an input whose lines were all taken, those of each lane in order
pub record HasRunLanes (rules : Rules) (x : Input) (w : WorldView) : Type 0 where
  pub world : w ≡ record { script = x.script; rules = rules; schedule = x.schedule; taken = w.taken; spent = false }
  pub interleaved : IsInterleaving x.schedule w.taken

-- the lines that a world took, and their report
abbrev pub live_world_text : WorldView → List ℕ
live_world_text w = took_text w.schedule w.taken ++ report_text w.script w.rules (view_record w) (length w.taken)
