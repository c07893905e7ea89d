-- What is written of a line that was taken.
use Rattle.std.specs.Prelude.{ℕ, List, [], take, Option, Some, None}
use Rattle.lapi_base.specs.declared.reply.Reply.{Reply}
use Rattle.lapi_base.specs.declared.schedule.Line.{Line}
use Rattle.lapi_base.specs.Output.CaptureBytes.{bytes_of, frame, taken_frames}
use Rattle.lapi_base.specs.Record.Wires.{Run}

abbrev pub taken_bytes : Run → List Line → ℕ × Reply → List ℕ
taken_bytes r schedule taken = bytes_of (taken_frames r schedule taken)

-- an entry as a frame, if there is one, and its first bytes
abbrev pub whole_frame : (from to : ℕ) → Option (List ℕ) → List ℕ
whole_frame a b None = []
whole_frame a b (Some entry) = frame a b entry

abbrev pub cut_frame : (from to count : ℕ) → Option (List ℕ) → List ℕ
cut_frame a b n None = []
cut_frame a b n (Some entry) = frame a b (take n entry)
