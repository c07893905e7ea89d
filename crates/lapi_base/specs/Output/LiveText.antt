-- What is written of an input whose lanes ran on threads: the lines in the order in which they were taken, then the
-- report of their record. This is the project's own.
use Rattle.std.specs.Prelude.{ℕ, List, [], ◌++◌, codes, length, slice_get, Option, Some, None}
use Rattle.std.specs.List.{flat_map}
use Rattle.lapi_base.specs.declared.input.Input.{Input}
use Rattle.lapi_base.specs.declared.rule.Rules.{Rules}
use Rattle.lapi_base.specs.declared.schedule.Line.{Line}
use Rattle.lapi_base.specs.Input.Rows.{line_row, row_line}
use Rattle.lapi_base.specs.Output.ReportText.{report_text}
use Rattle.lapi_base.specs.Record.WorldView.{record_at}

-- took LANE ACT
abbrev pub took_line : Line → List ℕ
took_line line = codes "took " ++ row_line (line_row line) ++ codes "\n"

-- the line that was taken, by its number
abbrev pub told_line : Option Line → List ℕ
told_line None = []
told_line (Some line) = took_line line

unfoldable pub took_text : List Line → (taken : List ℕ) → List ℕ
took_text schedule taken = flat_map (λ n. told_line (slice_get schedule n)) taken

abbrev pub live_text : Rules → Input → (taken : List ℕ) → List ℕ
live_text rules x taken = took_text x.schedule taken ++ report_text x.script rules (record_at x.script rules x.schedule taken) (length taken)
