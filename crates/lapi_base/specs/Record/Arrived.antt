-- What the packets that were handed over on a link tell, without the journal: which fragments are there, the
-- acknowledgement, the events of the next packet, and the bytes of a message. These are words of this project.
use Rattle.std.specs.Prelude.{◌≡◌, ℕ, suc, ◌+◌, max, ◌==◌, Bool, true, false, cond, ◌&&◌, not, List, [], ◌∷◌, ◌++◌, slice_get, Some, Option, None}
use Rattle.std.specs.List.{list_any, flat_map}
use Rattle.lapi_base.specs.declared.script.Script.{Script}
use Rattle.lapi_base.specs.declared.rule.Rules.{Rules}
use Rattle.lapi_base.specs.declared.message.MsgName.{MsgName}
use Rattle.lapi_base.specs.declared.event.Event.{Event}
use Rattle.lapi_base.specs.declared.event.Event.TheVariants.{Head, Land}
use Rattle.lapi_base.specs.declared.packet.Packet.{Packet}
use Rattle.lapi_base.specs.declared.packet.Packet.TheVariants.{Data, Ack}
use Rattle.lapi_base.specs.declared.packet.DataPacket.{DataPacket}
use Rattle.lapi_base.specs.Record.Fragments.{fragments_in}
use Rattle.lapi_base.specs.Packet.Layout.{unit_of, window_of}
use Rattle.lapi_base.specs.Record.Below.{every_below, least_missing, bits_of}
use Rattle.lapi_base.specs.Record.Names.{name_eq}
use Rattle.lapi_base.specs.Record.Operations.{numbers_below, fragment_count}
use Rattle.lapi_base.specs.Record.Handlers.{has_completion}
use Rattle.lapi_base.specs.Record.Wires.{has_number}
use Rattle.lapi_base.specs.Record.HeadSays.{is_active, follows}

-- Fragments.
abbrev pub is_fragment : MsgName → ℕ → Packet → Bool
is_fragment m j (Data p) = name_eq m p.name && p.fragment == j
is_fragment m j (Ack layout from to base bits) = false

abbrev pub is_part_of : MsgName → Packet → Bool
is_part_of m (Data p) = name_eq m p.name
is_part_of m (Ack layout from to base bits) = false

-- fragment j of message m is among these packets; some fragment of it is
unfoldable pub has_fragment : List Packet → MsgName → ℕ → Bool
has_fragment packets m j = list_any (is_fragment m j) packets

unfoldable pub has_some : List Packet → MsgName → Bool
has_some packets m = list_any (is_part_of m) packets

-- a packet of message m among these: the latest
unfoldable pub some_packet : List Packet → MsgName → Option DataPacket
some_packet [] m = None
some_packet (Data p ∷ ps) m = cond (name_eq m p.name) (Some p) (some_packet ps m)
some_packet (Ack layout from to base bits ∷ ps) m = some_packet ps m

-- every fragment of m is, of so many
unfoldable pub whole_by : (count : ℕ) → List Packet → MsgName → Bool
whole_by count packets m = every_below count (has_fragment packets m)

unfoldable pub is_whole : Script → List Packet → MsgName → Bool
is_whole script packets m = whole_by (fragment_count script m) packets m

-- the bytes of fragment j of m, and of all its fragments in order, as these packets have them
unfoldable pub payload_of : List Packet → MsgName → ℕ → List ℕ
payload_of [] m j = []
payload_of (Data p ∷ ps) m j = cond (is_fragment m j (Data p)) p.payload (payload_of ps m j)
payload_of (Ack layout from to base bits ∷ ps) m j = payload_of ps m j

unfoldable pub assembled : (count : ℕ) → List Packet → MsgName → List ℕ
assembled count packets m = flat_map (payload_of packets m) (numbers_below count)

-- Numbers.
-- a number above all of these packets'
unfoldable pub number_bound : List Packet → ℕ
number_bound [] = 0
number_bound (Data p ∷ ps) = max (suc p.seq) (number_bound ps)
number_bound (Ack layout from to base bits ∷ ps) = number_bound ps

-- the least number that none of these packets has
unfoldable pub least_number : List Packet → ℕ
least_number packets = least_missing (number_bound packets) (has_number packets)

-- the acknowledgement of these packets of the link from a to b
unfoldable pub ack_of : Script → List Packet → (from to : ℕ) → Packet
ack_of script packets a b = Ack script.layout b a (least_number packets) (bits_of (window_of script) (λ i. has_number packets (least_number packets + i)))

-- The same by the packet alone.
-- the fragments of a message with so many bytes
unfoldable pub count_of : Script → (length : ℕ) → ℕ
count_of script length = fragments_in (unit_of script) length

-- the events of a packet with a new number, which comes to these
unfoldable pub comes : Script → Rules → List Packet → DataPacket → List Event
comes script rules packets p =
    cond (is_active p.head && not (has_some packets p.name)) (Head p.name ∷ []) []
    ++ cond (whole_by (count_of script p.length) (Data p ∷ packets) p.name) (Land p.name ∷ follows p.head (has_completion script rules p.name.origin p.name.statement) p.name) []

-- a packet whose number some of these have is one of them
abbrev pub IsKnown : DataPacket → List Packet → Type 0
IsKnown p packets = has_number packets p.seq ≡ true → (k : ℕ) × (slice_get packets k ≡ Some (Data p))
