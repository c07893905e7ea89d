-- The bytes of a capture: what the switch handed over, line by line. This is the project's own.
use Rattle.std.specs.Prelude.{ℕ, List, [], ◌∷◌, ◌++◌, length, map, take, slice_get, Option, Some, None, option_to_list}
use Rattle.std.specs.List.{flat_map, zip}
use Rattle.lapi_base.specs.declared.capture.TheConstants.{CAPTURE_MAGIC, CAPTURE_END}
use Rattle.lapi_base.specs.declared.reply.Reply.{Reply}
use Rattle.lapi_base.specs.declared.reply.Reply.TheVariants.{Did, Bad}
use Rattle.lapi_base.specs.declared.schedule.Act.{Act}
use Rattle.lapi_base.specs.declared.schedule.Act.TheVariants.{Deliver, Cut, Inject}
use Rattle.lapi_base.specs.declared.schedule.Line.{Line}
use Rattle.lapi_base.specs.Packet.PacketBytes.{one, two, packet}
use Rattle.lapi_base.specs.Record.Wires.{Run}
use Rattle.lapi_base.specs.Record.WorldView.{act_at}

-- the entry of this place of a wire as bytes, if there is one
abbrev pub entry_bytes : Run → (from to place : ℕ) → List (List ℕ)
entry_bytes r a b k = map packet (option_to_list (slice_get (r.wire a b) k))

-- bytes that were handed over, with the tasks and how many they are
abbrev pub frame : (from to : ℕ) → List ℕ → List ℕ
frame a b bytes = one a ++ (one b ++ (two (length bytes) ++ bytes))

-- What a line with this reply handed over: an entry, the first bytes of one, or bytes that are no packet.
abbrev pub frames_of : Run → Act → Reply → List (List ℕ)
frames_of r (Deliver a b k) Did = map (frame a b) (entry_bytes r a b k)
frames_of r (Cut a b k n) (Bad bad) = map (λ bytes. frame a b (take n bytes)) (entry_bytes r a b k)
frames_of r (Inject a b bytes) reply = frame a b bytes ∷ []
frames_of r act reply = []

-- the capture with these frames
abbrev pub bytes_of : List (List ℕ) → List ℕ
bytes_of frames = flat_map (λ f. f) frames

unfoldable pub capture_of : List (List ℕ) → List ℕ
capture_of frames = CAPTURE_MAGIC ++ (bytes_of frames ++ CAPTURE_END ∷ [])

-- The capture of a record, by its acts,
unfoldable pub frames : Run → List (Act × Reply) → List (List ℕ)
frames r lines = flat_map (λ (line : Act × Reply). frames_of r line.0 line.1) lines

unfoldable pub capture : Run → List Act → List ℕ
capture r acts = capture_of (frames r (zip acts r.replies))

-- and by the lines taken of a schedule.
abbrev pub frames_by : Run → Option Act → Reply → List (List ℕ)
frames_by r None reply = []
frames_by r (Some act) reply = frames_of r act reply

abbrev pub taken_frames : Run → List Line → ℕ × Reply → List (List ℕ)
taken_frames r schedule taken = frames_by r (act_at schedule taken.0) taken.1

unfoldable pub capture_taken : Run → List Line → (taken : List ℕ) → List ℕ
capture_taken r schedule taken = capture_of (flat_map (taken_frames r schedule) (zip taken r.replies))
