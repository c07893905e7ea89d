-- What is written of a world and of an input.
use Rattle.std.specs.Prelude.{ℕ, ◌≤◌, List, length, Option, Some, None}
use Rattle.lapi_base.specs.declared.rule.Rules.{Rules}
use Rattle.lapi_base.specs.declared.command.View.{View}
use Rattle.lapi_base.specs.declared.command.View.TheVariants.{Report, Journal, Wires, Trace, Capture}
use Rattle.lapi_base.specs.declared.input.Input.{Input}
use Rattle.lapi_base.specs.declared.statement.Statement.{Statement}
use Rattle.lapi_base.specs.Output.CommandAnswers.{counts_text, view_text}
use Rattle.lapi_base.specs.Record.WorldView.{WorldView, view_record}
use Rattle.lapi_base.specs.Output.ReportText.{report_text}
use Rattle.lapi_base.specs.Output.JournalText.{journal_text}
use Rattle.lapi_base.specs.Output.WireText.{wire_text}
use Rattle.lapi_base.specs.Output.TraceText.{trace_text}
use Rattle.lapi_base.specs.Output.CaptureBytes.{capture_taken}

abbrev pub world_text : View → WorldView → List ℕ
world_text Report w = report_text w.script w.rules (view_record w) (length w.taken)
world_text Journal w = journal_text (view_record w)
world_text Wires w = wire_text w.script (view_record w)
world_text Trace w = trace_text w.schedule w.taken (view_record w).replies
world_text Capture w = capture_taken (view_record w) w.schedule w.taken

-- and of an input: its counts, where no view of its record is asked for
abbrev pub asked_text : Option View → Rules → Input → List ℕ
asked_text None rules = counts_text
asked_text (Some view) rules = view_text view rules

-- as many statements as a task may have
abbrev pub HasFew : List Statement → Type 0
HasFew list = length list ≤ 512
