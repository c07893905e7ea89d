-- The bytes that are written for each part of a packet, each field reduced to its size: the one spelling of a packet
-- that has one.
use Rattle.std.specs.Prelude.{ℕ, List, [], ◌∷◌, ◌++◌, ◌%◌, ◌^◌, length, Option, unwrap_or}
use Rattle.std.specs.List.{flat_map}
use Rattle.std.specs.Int.{w16, w32, to_be_bytes}
use Rattle.lapi_base.specs.declared.head.Head.{Head}
use Rattle.lapi_base.specs.declared.head.Head.TheVariants as heads
use Rattle.lapi_base.specs.declared.packet.Packet.{Packet}
use Rattle.lapi_base.specs.declared.packet.Packet.TheVariants as packets
use Rattle.lapi_base.specs.declared.packet.DataPacket.{DataPacket}
use Rattle.lapi_base.specs.declared.message.MsgName.{MsgName}
use Rattle.lapi_base.specs.declared.span.Span.{Span}
use Rattle.lapi_base.specs.declared.head.NoteOp.{NoteOp}
use Rattle.lapi_base.specs.declared.head.NoteOp.TheVariants as notes
use Rattle.lapi_base.specs.declared.message.Leg.{Leg}
use Rattle.lapi_base.specs.declared.message.Leg.TheVariants.{Go, Back, Note, Echo, Join}
use Rattle.lapi_base.specs.declared.statement.RmwOp.{RmwOp}
use Rattle.lapi_base.specs.declared.statement.RmwOp.TheVariants as updates
use Rattle.lapi_base.specs.Packet.Format.{bytes_of}
use Rattle.lapi_base.specs.Packet.Layout.{layout_of, bits_size}

-- The numbers that stand for legs and operations.
abbrev pub leg_number : Leg → ℕ
leg_number Go = 1
leg_number Back = 2
leg_number Note = 3
leg_number (Join _) = 4
leg_number Echo = 5

abbrev pub note_number : NoteOp → ℕ
note_number notes.Put = 1
note_number notes.Putv = 3
note_number notes.Am = 6

-- the operation that a head is of
abbrev pub head_number : Head → ℕ
head_number (heads.Put _ _ _) = 1
head_number (heads.GetGo _ _ _ _ _) = 2
head_number (heads.GetBack _ _) = 2
head_number (heads.Putv _ _ _) = 3
head_number (heads.GetvGo _ _ _ _) = 4
head_number (heads.GetvBack _ _) = 4
head_number (heads.RmwGo _ _ _ _ _ _) = 5
head_number (heads.RmwBack _ _) = 5
head_number (heads.Am _ _ _ _) = 6
head_number (heads.Echo _ _) = 6
head_number (heads.Note op _) = note_number op
head_number (heads.Gfence _) = 7
head_number (heads.Addr _ _) = 8

abbrev pub update_number : RmwOp → ℕ
update_number updates.Add = 1
update_number updates.Or = 2
update_number updates.Swap = 3
update_number updates.Cas = 4

-- Fields.
abbrev pub one : ℕ → List ℕ
one n = n % 256 ∷ []

abbrev pub two : ℕ → List ℕ
two n = to_be_bytes w16 n

abbrev pub four : ℕ → List ℕ
four n = to_be_bytes w32 n

abbrev pub counter : Option ℕ → List ℕ
counter number = one (unwrap_or number 255)

abbrev pub span : Span → List ℕ
span s = four (s.at % 2 ^ 32) ++ four s.len

abbrev pub spans : List Span → List ℕ
spans list = flat_map span list

abbrev pub front : (layout kind from to : ℕ) → List ℕ
front layout kind from to = one 76 ++ one layout ++ one kind ++ one from ++ one to

abbrev pub acknowledgement : (layout base bits : ℕ) → List ℕ
acknowledgement layout base bits = four base ++ bytes_of (bits_size (layout_of layout)) bits

abbrev pub head : Head → List ℕ
head (heads.Put at tgt cmpl) = four at ++ counter tgt ++ counter cmpl
head (heads.GetGo asked source dest tgt org) = four asked ++ four source ++ four dest ++ counter tgt ++ counter org
head (heads.GetBack dest org) = four dest ++ counter org
head (heads.Putv tgt cmpl pieces) = counter tgt ++ counter cmpl ++ one (length pieces) ++ spans pieces
head (heads.GetvGo tgt org source dest) = counter tgt ++ counter org ++ one (length source) ++ spans source ++ spans dest
head (heads.GetvBack org dest) = counter org ++ one (length dest) ++ spans dest
head (heads.RmwGo op at in1 in2 prev org) = one (update_number op) ++ four at ++ four in1 ++ four in2 ++ four prev ++ counter org
head (heads.RmwBack dest org) = four dest ++ counter org
head (heads.Am handler tgt cmpl header) = one handler ++ counter tgt ++ counter cmpl ++ one (length header) ++ header
head (heads.Echo dest cmpl) = four dest ++ counter cmpl
head (heads.Note op cmpl) = one cmpl
head (heads.Gfence round) = two round
head (heads.Addr round address) = two round ++ four address

abbrev pub name : MsgName → List ℕ
name m = one m.origin ++ two m.statement ++ one (leg_number m.leg)

abbrev pub packet_data : DataPacket → List ℕ
packet_data d = front d.layout 1 d.from d.to ++ four d.seq ++ name d.name ++ one (head_number d.head) ++ four d.length ++ two d.fragment ++ head d.head ++ d.payload

abbrev pub packet : Packet → List ℕ
packet (packets.Data d) = packet_data d
packet (packets.Ack layout from to base bits) = front layout 2 from to ++ acknowledgement layout base bits

-- how many bytes a packet has
unfoldable pub packet_size : Packet → ℕ
packet_size p = length (packet p)
