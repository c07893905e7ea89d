-- An audit's text as it is read, line by line, up to the first fault. This is the project's own.
use Rattle.std.specs.Prelude.{ℕ, ◌+◌, nat_lt, if◌then◌else◌, List, [], ◌∷◌, ◌++◌, length, codes, Result, Ok, Err}
use Rattle.lapi_base.specs.declared.event.Event.{Event}
use Rattle.lapi_base.specs.declared.script.Script.{Script}
use Rattle.lapi_base.specs.declared.audit_input.AuditInput.{AuditInput}
use Rattle.lapi_base.specs.declared.input.Which.TheVariants as which
use Rattle.lapi_base.specs.declared.input.LineError.{LineError}
use Rattle.lapi_base.specs.declared.input.LineError.TheVariants.{Syntax, Limit}
use Rattle.lapi_base.specs.Input.Lines.{lines_of, words_of, is_clean, is_skipped}
use Rattle.lapi_base.specs.Input.Forms.{run, and_then}
use Rattle.lapi_base.specs.Input.Reading as reading
use Rattle.lapi_base.specs.Input.Reading.{State, step, within, is_word, at_line, most_input, Fault}
use Rattle.lapi_base.specs.Input.AuditForms.{event_line_form}
use Rattle.lapi_base.specs.Input.AuditRows.{most_events}

-- What was read so far: a part of the script, as of an input's; the script and events; or all.
--
--   Before (each line of the script) -> Events (each event) -> Ended
pub data AuditState : Type 0 where
  Before : (state : State) → AuditState
  Events : (script : Script) (journal : List Event) → AuditState
  Ended : (x : AuditInput) → AuditState

-- ---- what a line leads to

-- the script, where an input's schedule would begin
abbrev pub events_of : State → Result AuditState LineError
events_of reading.First = Err Syntax
events_of (reading.Second layout) = Err Syntax
events_of (reading.Start script) = Err Syntax
events_of (reading.Tasks script current) = Err Syntax
events_of (reading.Lines script schedule) = Ok (Events script [])
events_of (reading.Finished x) = Err Syntax

-- the line `journal` stands where an input has the line `schedule`, which no audit has
abbrev pub on_script : State → List (List ℕ) → Result AuditState LineError
on_script state words =
    if is_word (codes "journal") words then and_then (step state (codes "schedule" ∷ [])) events_of
    else if is_word (codes "schedule") words then Err Syntax
    else and_then (step state words) (λ next. Ok (Before next))

abbrev pub on_event : Script → List Event → Event → Result AuditState LineError
on_event script journal e = within (nat_lt (length journal) most_events) which.Events (Ok (Events script (journal ++ e ∷ [])))

-- after a line's words
unfoldable pub audit_step : AuditState → List (List ℕ) → Result AuditState LineError
audit_step (Before state) words = on_script state words
audit_step (Events script journal) words =
    if is_word (codes "done") words then Ok (Ended (record { script = script; journal = journal }))
    else and_then (run event_line_form words) (on_event script journal)
audit_step (Ended x) words = Err Syntax

-- after a line
unfoldable pub audit_after : AuditState → List ℕ → Result AuditState LineError
audit_after state line = if is_clean line then (if is_skipped (words_of line) then Ok state else audit_step state (words_of line)) else Err Syntax

-- ---- the script and the events, or the first fault

-- at the end, where the next line would have number l
abbrev pub audit_of : ℕ → AuditState → Result AuditInput Fault
audit_of l (Before state) = Err (Syntax, l)
audit_of l (Events script journal) = Err (Syntax, l)
audit_of l (Ended x) = Ok x

-- from a state on, where the first of the lines has number l
abbrev pub read_audit_from : ℕ → AuditState → List (List ℕ) → Result AuditInput Fault
read_audit_from l state [] = audit_of l state
read_audit_from l state (line ∷ lines) = at_line l (audit_after state line) (λ next. read_audit_from (l + 1) next lines)

abbrev pub read_audit : List ℕ → Result AuditInput Fault
read_audit bytes = if nat_lt most_input (length bytes) then Err (Limit which.Input, 0) else read_audit_from 1 (Before reading.First) (lines_of bytes)
