-- The text of a trace: each line taken, as it is written, with its reply. This is the project's own.
use Rattle.std.specs.Prelude.{ℕ, List, [], ◌++◌, codes, slice_get, Option, Some, None}
use Rattle.std.specs.List.{flat_map, zip}
use Rattle.std.specs.Fmt.{decimal}
use Rattle.lapi_base.specs.declared.schedule.Line.{Line}
use Rattle.lapi_base.specs.declared.reply.Reply.{Reply}
use Rattle.lapi_base.specs.declared.reply.Reply.TheVariants.{Did, Blocked, Absent, Idle, Busy, Bad}
use Rattle.lapi_base.specs.Input.Rows.{line_row, row_line}
use Rattle.lapi_base.specs.Output.TextParts.{reason_number}

-- did, blocked, absent, idle, busy or bad P N
abbrev pub reply_text : Reply → List ℕ
reply_text Did = codes "did"
reply_text Blocked = codes "blocked"
reply_text Absent = codes "absent"
reply_text Idle = codes "idle"
reply_text Busy = codes "busy"
reply_text (Bad bad) = codes "bad " ++ decimal bad.place ++ codes " " ++ decimal (reason_number bad.reason)

-- LANE ACT : REPLY
abbrev pub trace_line : Line → Reply → List ℕ
trace_line line reply = row_line (line_row line) ++ codes " : " ++ reply_text reply ++ codes "\n"

-- the line that was taken, by its number, and its reply
abbrev pub answered_text : Option Line → Reply → List ℕ
answered_text None reply = []
answered_text (Some line) reply = trace_line line reply

abbrev pub taken_text : List Line → ℕ × Reply → List ℕ
taken_text schedule taken = answered_text (slice_get schedule taken.0) taken.1

unfoldable pub trace_text : List Line → (taken : List ℕ) → List Reply → List ℕ
trace_text schedule taken replies = flat_map (taken_text schedule) (zip taken replies)
