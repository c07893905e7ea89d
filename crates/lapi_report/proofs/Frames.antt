-- The frames of a capture, one after another.
use Rattle.std.proofs.Common.{◌≡◌, ℕ, zero, suc, min, List, [], ◌∷◌, ◌++◌, length, map, take, Some, refl, sym, ap, ◌∙◌}
use Rattle.std.specs.Prelude.{option_to_list, slice_get}
use Rattle.std.specs.List.{flat_map}
use Rattle.std.proofs.lemmas.Grind.{flat_map-append}
use Rattle.std.proofs.lemmas.List.{append-nil, take_min}
use Rattle.lapi_base.specs.declared.packet.Packet.{Packet}
use Rattle.lapi_base.specs.declared.reply.Reply.{Reply}
use Rattle.lapi_base.specs.declared.schedule.Line.{Line}
use Rattle.lapi_base.specs.declared.script.Script.{Script}
use Rattle.lapi_base.specs.Output.CaptureBytes.{bytes_of, frame, taken_frames}
use Rattle.lapi_base.specs.Packet.PacketBytes.{packet}
use Rattle.lapi_base.specs.Packet.Spelling.{spells_packet}
use Rattle.lapi_base.specs.Record.Valid.{ValidAct, ValidLine, ValidSchedule, ValidScript}
use Rattle.lapi_base.specs.Record.Wires.{Run}
use Rattle.lapi_base.proofs.ListLaws.{all-get}
use Rattle.lapi_report.specs.CapturedLines.{cut_frame, taken_bytes, whole_frame}

pub taken_front : (n : ℕ) (xs : List ℕ) → take (min n (length xs)) xs ≡ take n xs
taken_front n xs = take_min n xs

-- the frames of the lines taken, and the bytes of each line
pub taken_lines : (r : Run) (schedule : List Line) (lines : List (ℕ × Reply)) → bytes_of (flat_map (taken_frames r schedule) lines) ≡ flat_map (taken_bytes r schedule) lines
taken_lines r schedule [] = refl
taken_lines r schedule (line ∷ lines) = flat_map-append (λ f. f) (taken_frames r schedule line) (flat_map (taken_frames r schedule) lines) ∙ ap (λ bytes. taken_bytes r schedule line ++ bytes) (taken_lines r schedule lines)

-- an entry of a wire, looked up among packets or among their bytes
pub whole_entry : (a b : ℕ) (entries : List Packet) (k : ℕ) → whole_frame a b (slice_get (map packet entries) k) ≡ bytes_of (map (frame a b) (map packet (option_to_list (slice_get entries k))))
whole_entry a b [] k = refl
whole_entry a b (p ∷ entries) zero = sym (append-nil (frame a b (packet p)))
whole_entry a b (p ∷ entries) (suc k) = whole_entry a b entries k

pub cut_entry : (a b n : ℕ) (entries : List Packet) (k : ℕ) → cut_frame a b n (slice_get (map packet entries) k) ≡ bytes_of (map (λ bytes. frame a b (take n bytes)) (map packet (option_to_list (slice_get entries k))))
cut_entry a b n [] k = refl
cut_entry a b n (p ∷ entries) zero = sym (append-nil (frame a b (take n (packet p))))
cut_entry a b n (p ∷ entries) (suc k) = cut_entry a b n entries k

-- the act of a valid schedule's line is valid
pub line_valid : (script : Script) (schedule : List Line) (n : ℕ) (line : Line) → ValidScript script × ValidSchedule script spells_packet schedule → slice_get schedule n ≡ Some line → ValidAct script spells_packet line.act
line_valid script schedule n line valid at = (all-get (ValidLine script spells_packet) schedule n line valid.1.lines at).1
