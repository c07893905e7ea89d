-- The format of captures: frames as bytes, and what a frame tells.
use Rattle.std.specs.Prelude.{ℕ, ◌+◌, ◌*◌, Bool, true, ◌&&◌, ◌==◌, List, drop, slice_index_or, Option, Some, None, Result, Ok, Err}
use Rattle.lapi_base.specs.declared.packet.Packet.{Packet}
use Rattle.lapi_base.specs.declared.packet.Packet.TheVariants.{Data, Ack}
use Rattle.lapi_base.specs.declared.reply.Bad.{Bad}
use Rattle.lapi_base.specs.Packet.Spelling.{decoded}
use Rattle.lapi_capture.specs.declared.format.TheConstants.{FRONT}
use Rattle.lapi_capture.specs.declared.part.Part.{Part}

-- a byte, and 0 behind the last
abbrev pub byte_at : List ℕ → ℕ → ℕ
byte_at bytes i = slice_index_or bytes i 0

-- a frame by its bytes: the tasks, the size, and what was handed over
abbrev pub from : List ℕ → ℕ
from frame = byte_at frame 0

abbrev pub to : List ℕ → ℕ
to frame = byte_at frame 1

abbrev pub size_of : List ℕ → ℕ
size_of frame = 256 * byte_at frame 2 + byte_at frame 3

abbrev pub handed : List ℕ → List ℕ
handed frame = drop FRONT frame

-- the part of a message, where what was handed over spells a data packet
abbrev pub part_by : Result Packet Bad → Option Part
part_by (Ok (Data p)) =
    Some (record { message = record { name = p.name; to = p.to }; layout = p.layout; length = p.length; fragment = p.fragment })
part_by (Ok (Ack layout sender receiver base bits)) = None
part_by (Err bad) = None

unfoldable pub part_of : List ℕ → Option Part
part_of frame = part_by (decoded (handed frame))

-- It spells no packet of other tasks than the frame's.
abbrev pub is_addressed_by : (a b : ℕ) → Result Packet Bad → Bool
is_addressed_by a b (Ok (Data p)) = p.from == a && p.to == b
is_addressed_by a b (Ok (Ack layout sender receiver base bits)) = sender == a && receiver == b
is_addressed_by a b (Err bad) = true

unfoldable pub is_addressed : List ℕ → Bool
is_addressed frame = is_addressed_by (from frame) (to frame) (decoded (handed frame))
