-- What a command answers: a status, and the text that is written. This is the project's own.
use Rattle.std.specs.Prelude.{ℕ, List, ◌++◌, length, map, codes, Result, Ok, Err}
use Rattle.std.specs.List.{sum}
use Rattle.std.specs.Fmt.{decimal}
use Rattle.lapi_base.specs.declared.command.View.{View}
use Rattle.lapi_base.specs.declared.command.View.TheVariants.{Report, Journal, Wires, Trace, Capture}
use Rattle.lapi_base.specs.declared.input.Input.{Input}
use Rattle.lapi_base.specs.declared.schedule.Line.{Line}
use Rattle.lapi_base.specs.declared.input.Which.{Which}
use Rattle.lapi_base.specs.declared.input.Which.TheVariants as which
use Rattle.lapi_base.specs.declared.input.LineError.TheVariants.{Syntax, Limit}
use Rattle.lapi_base.specs.declared.status.Status.{Status}
use Rattle.lapi_base.specs.declared.status.Status.TheVariants as status
use Rattle.lapi_base.specs.Record.Operations.{numbers_below}
use Rattle.lapi_base.specs.declared.rule.Rules.{Rules}
use Rattle.lapi_base.specs.Record.Wires.{Run}
use Rattle.lapi_base.specs.Input.Reading.{Fault}
use Rattle.lapi_base.specs.Input.Rows.{canon}
use Rattle.lapi_base.specs.Record.WorldView.{record_of_all}
use Rattle.lapi_base.specs.Output.ReportText.{report_text}
use Rattle.lapi_base.specs.Output.JournalText.{journal_text}
use Rattle.lapi_base.specs.Output.WireText.{wire_text}
use Rattle.lapi_base.specs.Output.TraceText.{trace_text}
use Rattle.lapi_base.specs.Output.LiveText.{live_text}
use Rattle.lapi_base.specs.Output.CaptureBytes.{capture}
use Rattle.lapi_base.specs.Output.PacketText.{packet_text}
use Rattle.lapi_base.specs.Output.SummaryText.{summary_text}

pub record Answer : Type 0 where
  pub status : Status
  pub text : List ℕ

-- Words that are no command.
abbrev pub usage_text : List ℕ
usage_text = codes "usage: lapi run|journal|wire|trace|check|live|audit|capture|landings|array, lapi show HEX, lapi gen N, lapi sum N\n"

abbrev pub usage_answer : Answer
usage_answer = record { status = status.Usage; text = usage_text }

-- A packet that is shown.
abbrev pub shown_answer : List ℕ → Answer
shown_answer bytes = record { status = status.Ok; text = packet_text bytes }

-- What is no input: syntax LINE, or limit WHICH LINE.
abbrev pub which_name : Which → List ℕ
which_name which.Input = codes "input"
which_name which.Tasks = codes "tasks"
which_name which.Memory = codes "memory"
which_name which.Counters = codes "counters"
which_name which.Workers = codes "workers"
which_name which.Statements = codes "statements"
which_name which.Lines = codes "lines"
which_name which.Lane = codes "lane"
which_name which.Pieces = codes "pieces"
which_name which.Bytes = codes "bytes"
which_name which.Events = codes "events"
which_name which.Grid = codes "grid"
which_name which.Block = codes "block"
which_name which.Ops = codes "ops"
which_name which.Patch = codes "patch"
which_name which.Range = codes "range"

abbrev pub fault_answer : Fault → Answer
fault_answer (Syntax, line) = record { status = status.Syntax; text = codes "syntax " ++ decimal line ++ codes "\n" }
fault_answer (Limit w, line) = record { status = status.Limit; text = codes "limit " ++ which_name w ++ codes " " ++ decimal line ++ codes "\n" }

-- What is written of an input: its counts alone, or of the record of all its lines in order, with handlers of these rules.
abbrev pub recorded : Rules → Input → Run
recorded rules x = record_of_all x.script rules x.schedule

-- ok tasks T statements S lines L
abbrev pub counts_line : (tasks statements lines : ℕ) → List ℕ
counts_line tasks statements lines = codes "ok tasks " ++ decimal tasks ++ codes " statements " ++ decimal statements ++ codes " lines " ++ decimal lines ++ codes "\n"

abbrev pub counts_text : Input → List ℕ
counts_text x = counts_line x.script.tasks (sum (map (λ list. length list) x.script.lists)) (length x.schedule)

abbrev pub view_text : View → Rules → Input → List ℕ
view_text Report rules x = report_text x.script rules (recorded rules x) (length x.schedule)
view_text Journal rules x = journal_text (recorded rules x)
view_text Wires rules x = wire_text x.script (recorded rules x)
view_text Trace rules x = trace_text x.schedule (numbers_below (length x.schedule)) (recorded rules x).replies
view_text Capture rules x = capture (recorded rules x) (map (λ (line : Line). line.act) x.schedule)

abbrev pub input_answer : (text : Input → List ℕ) → Result Input Fault → Answer
input_answer text (Ok x) = record { status = status.Ok; text = text x }
input_answer text (Err fault) = fault_answer fault

-- What is told of the input that a number generates: its canonical text, or a summary of the record of all its lines.
abbrev pub generated_answer : (generated : Input) → Answer
generated_answer x = record { status = status.Ok; text = canon x }

abbrev pub summary_answer : (number : ℕ) → Rules → (generated : Input) → Answer
summary_answer number rules x = record { status = status.Ok; text = summary_text x.script rules (recorded rules x) number (length x.schedule) }

-- What is told of lanes that clash: laneclash TASK WORKER; and of lanes that ran on threads, which took these lines.
abbrev pub clash_answer : (task worker : ℕ) → Answer
clash_answer t w = record { status = status.LaneClash; text = codes "laneclash " ++ decimal t ++ codes " " ++ decimal w ++ codes "\n" }

abbrev pub live_answer : Rules → Input → (taken : List ℕ) → Answer
live_answer rules x taken = record { status = status.Ok; text = live_text rules x taken }

-- What is told of events that are a journal of the atomic message machine, and of those that are not: the number of a
-- rule, and the place of the first event that breaks one.
abbrev pub atomic_answer : (events : ℕ) → Answer
atomic_answer count = record { status = status.Ok; text = codes "atomic " ++ decimal count ++ codes "\n" }

abbrev pub broken_answer : (rule place : ℕ) → Answer
broken_answer rule place = record { status = status.Broken; text = codes "broken A" ++ decimal rule ++ codes " " ++ decimal place ++ codes "\n" }
