-- What is written of a world that has taken all lines of an input is what is asked of the input.
use Rattle.std.proofs.Common.{◌≡◌, ℕ, List, false, length, ap, ◌∙◌}
use Rattle.lapi_base.specs.declared.rule.Rules.{Rules}
use Rattle.lapi_base.specs.declared.command.View.{View}
use Rattle.lapi_base.specs.declared.command.View.TheVariants.{Report, Journal, Wires, Trace, Capture}
use Rattle.lapi_base.specs.declared.input.Input.{Input}
use Rattle.lapi_base.specs.Output.CommandAnswers.{Answer, recorded, view_text, summary_answer}
use Rattle.lapi_base.specs.Output.JournalText.{journal_text}
use Rattle.lapi_base.specs.Record.Operations.{numbers_below}
use Rattle.lapi_base.specs.Record.Wires.{Run}
use Rattle.lapi_base.specs.Output.ReportText.{report_text}
use Rattle.lapi_base.specs.Output.SummaryText.{summary_text}
use Rattle.lapi_base.specs.Record.WorldView.{WorldView, view_record}
use Rattle.lapi_base.specs.Laws.LinesTaken.{TakesAll}
use Rattle.lapi_base.specs.Output.TraceText.{trace_text}
use Rattle.lapi_base.specs.Output.CaptureBytes.{capture_taken}
use Rattle.lapi_base.specs.Output.WireText.{wire_text}
use Rattle.lapi_base.proofs.CapturedLines.{taken-all}
use Rattle.lapi_base.proofs.UptoLaws.{numbers_below-length}
use Rattle.lapi_tool.specs.Shown.{world_text}

abbrev all_taken : Rules → Input → WorldView
all_taken rules x = record { script = x.script; rules = rules; schedule = x.schedule; taken = numbers_below (length x.schedule); spent = false }

text_of_all : (view : View) (rules : Rules) (x : Input) → TakesAll → world_text view (all_taken rules x) ≡ view_text view rules x
text_of_all Report rules x whole =
    ap (λ (r : Run). report_text x.script rules r (length (numbers_below (length x.schedule)))) (whole x.script rules x.schedule) ∙ ap (report_text x.script rules (recorded rules x)) (numbers_below-length (length x.schedule))
text_of_all Journal rules x whole = ap journal_text (whole x.script rules x.schedule)
text_of_all Wires rules x whole = ap (wire_text x.script) (whole x.script rules x.schedule)
text_of_all Capture rules x whole = ap (λ (r : Run). capture_taken r x.schedule (numbers_below (length x.schedule))) (whole x.script rules x.schedule) ∙ taken-all (recorded rules x) x.schedule
text_of_all Trace rules x whole = ap (λ (r : Run). trace_text x.schedule (numbers_below (length x.schedule)) r.replies) (whole x.script rules x.schedule)

pub world_texts : (view : View) (rules : Rules) (x : Input) (w : WorldView) → w ≡ all_taken rules x → TakesAll → world_text view w ≡ view_text view rules x
world_texts view rules x w all whole = ap (world_text view) all ∙ text_of_all view rules x whole

abbrev summary_of : ℕ → WorldView → List ℕ
summary_of number w = summary_text w.script w.rules (view_record w) number (length w.taken)

-- and so is its summary
pub world_summary : (number : ℕ) (rules : Rules) (x : Input) (w : WorldView) → w ≡ all_taken rules x → TakesAll → summary_of number w ≡ (summary_answer number rules x).text
world_summary number rules x w all whole =
    ap (summary_of number) all
    ∙ (ap (λ (r : Run). summary_text x.script rules r number (length (numbers_below (length x.schedule)))) (whole x.script rules x.schedule)
    ∙ ap (summary_text x.script rules (recorded rules x) number) (numbers_below-length (length x.schedule)))
