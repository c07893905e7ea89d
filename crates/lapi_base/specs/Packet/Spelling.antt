-- Packets and their spellings: which bytes are a packet, and the first fault of all others. The layout of packets
-- is this project's own.
use Rattle.std.specs.Prelude.{ℕ, ◌%◌, Bool, not, ◌&&◌, ◌||◌, List, Result, Ok, Err, is_ok, nat_lt, nat_le, ◌==◌, if◌then◌else◌}
use Rattle.lapi_base.specs.declared.reply.Bad.{Bad}
use Rattle.lapi_base.specs.declared.reply.Reason.TheVariants as reasons
use Rattle.lapi_base.specs.declared.message.Leg.{Leg}
use Rattle.lapi_base.specs.declared.message.Leg.TheVariants.{Go, Back, Note, Echo, Join}
use Rattle.lapi_base.specs.declared.message.MsgName.{MsgName}
use Rattle.lapi_base.specs.declared.packet.Packet.{Packet}
use Rattle.lapi_base.specs.declared.packet.Packet.TheVariants as packets
use Rattle.lapi_base.specs.Packet.Format.{Format, Done, ◌>>=◌, field, any, bytes_form, IsSpelled, IsRefused, answer, One, Two, Four}
use Rattle.lapi_base.specs.Record.Fragments.{fragments_in, fragment_length}
use Rattle.lapi_base.specs.Packet.Layout.{Layout, is_version, layout_of, unit, longest, longest_active, has_echo, bits_size}
use Rattle.lapi_base.specs.Packet.Heads.{operation_form, head_form}

-- the fields that each packet begins with; kind is 1 for data, 2 for an acknowledgement
pub record Front : Type 0 where
  pub layout : ℕ
  pub kind : ℕ
  pub from : ℕ
  pub to : ℕ

unfoldable pub task_form : Format ℕ
task_form = field One reasons.Task (λ n. nat_le n 7)

unfoldable pub kind_form : Format ℕ
kind_form = field One reasons.Kind (λ n. n == 1 || n == 2)

unfoldable pub front_form : Format Front
front_form = do
  magic ← field One reasons.Magic (λ n. n == 0x4c)
  version ← field One reasons.Version is_version
  kind ← kind_form
  from ← task_form
  to ← task_form
  Done (record { layout = version; kind = kind; from = from; to = to })

unfoldable pub acknowledgement_form : (layout from to : ℕ) → Format Packet
acknowledgement_form layout from to = do
  base ← any Four
  bits ← field (bits_size (layout_of layout)) reasons.NotCanonical (λ n. n % 2 == 0)
  Done (packets.Ack layout from to base bits)

-- Go and Join are from the origin, Back, Note and Echo to it, and Join to another task; the first layout has no Echo.
abbrev pub is_leg : Layout → (from to origin number : ℕ) → Bool
is_leg layout from to origin n =
    if n == 1 then origin == from
    else if n == 2 then origin == to
    else if n == 3 then origin == to
    else if n == 5 then has_echo layout && origin == to
    else n == 4 && origin == from && not (from == to)

-- 1 Go, 2 Back, 3 Note, 4 Join, 5 Echo
abbrev pub leg_of : ℕ → ℕ → Leg
leg_of to n = if n == 1 then Go else if n == 2 then Back else if n == 3 then Note else if n == 5 then Echo else Join to

unfoldable pub leg_form : Layout → (from to origin : ℕ) → Format Leg
leg_form layout from to origin = do
  n ← field One reasons.Kind (is_leg layout from to origin)
  Done (leg_of to n)

unfoldable pub name_form : Layout → (from to : ℕ) → Format MsgName
name_form layout from to = do
  origin ← field One reasons.Task (λ n. n == from || n == to)
  statement ← field Two reasons.Field (λ n. nat_le n 511)
  leg ← leg_form layout from to origin
  Done (record { origin = origin; statement = statement; leg = leg })

-- Requests, notices and joins carry no bytes, and the answer of a read-modify-write a word.
abbrev pub is_length : Layout → Leg → ℕ → ℕ → Bool
is_length layout Go op n =
    if op == 2 || op == 4 || op == 5 then n == 0
    else if op == 6 then nat_le n (longest_active layout)
    else nat_le n (longest layout)
is_length layout Back op n = if op == 5 then n == 4 else nat_le n (longest layout)
is_length layout Note op n = n == 0
is_length layout Echo op n = n == 4
is_length layout (Join _) op n = n == 0

unfoldable pub length_form : Layout → Leg → ℕ → Format ℕ
length_form layout leg op = field Four reasons.Field (is_length layout leg op)

unfoldable pub fragment_form : Layout → ℕ → Format ℕ
fragment_form layout size = field Two reasons.Field (λ n. nat_lt n (fragments_in (unit layout) size))

unfoldable pub data_form : (layout from to : ℕ) → Format Packet
data_form layout from to = do
  seq ← any Four
  name ← name_form (layout_of layout) from to
  op ← operation_form name.leg
  size ← length_form (layout_of layout) name.leg op
  fragment ← fragment_form (layout_of layout) size
  head ← head_form (layout_of layout) name.leg op size
  payload ← bytes_form (fragment_length (unit (layout_of layout)) size fragment)
  Done (packets.Data (record { layout = layout; from = from; to = to; seq = seq; name = name; head = head; length = size; fragment = fragment; payload = payload }))

unfoldable pub packet_form : Format Packet
packet_form = do
  front ← front_form
  if front.kind == 1 then data_form front.layout front.from front.to else acknowledgement_form front.layout front.from front.to

-- ---- what contracts say

-- the bytes are the packet's fields in order, and each keeps its rule
abbrev pub Spells : Packet → List ℕ → Type 0
Spells packet bytes = IsSpelled packet_form packet bytes

abbrev pub HasSpelling : Packet → Type 0
HasSpelling packet = (bytes : List ℕ) × Spells packet bytes

-- the first fault of bytes that spell no packet
abbrev pub Refuses : List ℕ → Bad → Type 0
Refuses bytes bad = IsRefused packet_form bytes bad.place bad.reason

-- the packet that the bytes spell, or their first fault
abbrev pub decoded : List ℕ → Result Packet Bad
decoded bytes = answer packet_form bytes

-- whether bytes spell a packet at all
unfoldable pub spells_packet : List ℕ → Bool
spells_packet bytes = is_ok (decoded bytes)

-- why they spell none; of bytes that spell a packet nothing is said
abbrev pub fault_or : Bad → Result Packet Bad → Bad
fault_or none (Ok p) = none
fault_or none (Err bad) = bad

unfoldable pub refusal : List ℕ → Bad
refusal bytes = fault_or (record { place = 0; reason = reasons.Short }) (decoded bytes)
