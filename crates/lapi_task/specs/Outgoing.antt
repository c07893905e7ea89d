-- Messages that leave a task, and their packets.
use Rattle.std.specs.Prelude.{ℕ, ◌+◌, ◌<◌, ◌^◌, ◌&&◌, not, cond, List, [], ◌++◌, length, map, Option, None, Some, is_some}
use Rattle.lapi_base.specs.declared.script.Script.{Script}
use Rattle.lapi_base.specs.declared.message.Leg.TheVariants.{Go}
use Rattle.lapi_base.specs.declared.message.MsgName.{MsgName}
use Rattle.lapi_base.specs.declared.packet.Packet.{Packet}
use Rattle.lapi_base.specs.declared.packet.Packet.TheVariants.{Data}
use Rattle.lapi_base.specs.Record.Fragments.{fragments_in, fragment_bytes}
use Rattle.lapi_base.specs.Record.HeadSays.{back_head}
use Rattle.lapi_base.specs.Record.Names.{leg_eq}
use Rattle.lapi_base.specs.Record.Operations.{numbers_below, statement, sender, receiver, message_length}
use Rattle.lapi_base.specs.Record.Packets.{head_by}
use Rattle.lapi_base.specs.Packet.PacketBytes as written
use Rattle.lapi_base.specs.Packet.Spelling.{HasSpelling}
use Rattle.lapi_link.specs.Sender.{SendingEnd}
use Rattle.lapi_base.specs.declared.packet.DataPacket.{DataPacket}

-- what all packets of message m have in common, with number and fragment 0 and no payload
abbrev pub outgoing : Script → MsgName → DataPacket
outgoing script m = record { layout = script.layout; from = sender script m; to = receiver script m; seq = 0; name = m; head = head_by script m m.leg (statement script m.origin m.statement); length = message_length script m; fragment = 0; payload = [] }

-- the packet of number n with fragment j of a message with these bytes
abbrev pub packet_of : DataPacket → (unit n j : ℕ) → (bytes : List ℕ) → Packet
packet_of o unit n j bytes = Data (record o { seq = n; fragment = j; payload = fragment_bytes unit j bytes })

-- its packets, from number n on
abbrev pub bytes_of : DataPacket → (unit n : ℕ) → (bytes : List ℕ) → (j : ℕ) → List ℕ
bytes_of o unit n bytes j = written.packet (packet_of o unit (n + j) j bytes)

abbrev pub packets_of : DataPacket → (unit n : ℕ) → (bytes : List ℕ) → List (List ℕ)
packets_of o unit n bytes = map (bytes_of o unit n bytes) (numbers_below (fragments_in unit o.length))

-- the tag of its numbers: the statement whose data they bring to stay, since nothing answers them
abbrev pub tag_of : DataPacket → Option ℕ
tag_of o = cond (leg_eq o.name.leg Go && not (is_some (back_head o.head))) (Some o.name.statement) None

-- an end with these packets more that wait, all with this tag
abbrev pub extended : SendingEnd → (tag : Option ℕ) → List (List ℕ) → SendingEnd
extended s tag packets = record s { window = record s.window { numbers = s.window.numbers + length packets }; waiting = s.waiting ++ packets; tags = s.tags ++ map (λ _. tag) packets }

-- an end with the packets of a message more that wait
abbrev pub with_message : (unit : ℕ) → DataPacket → (bytes : List ℕ) → SendingEnd → SendingEnd
with_message unit o bytes s = extended s (tag_of o) (packets_of o unit s.window.numbers bytes)

-- each fragment of the message has a spelling, whatever its number
abbrev pub AreSpelled : (unit : ℕ) → DataPacket → (bytes : List ℕ) → Type 0
AreSpelled unit o bytes = (n j : ℕ) → n < 2 ^ 32 → j < fragments_in unit o.length → HasSpelling (packet_of o unit n j bytes)
