-- Parts of small runs, and what packets tell, computed by the definitions alone.
use Rattle.std.proofs.Common.{◌≡◌, ℕ, true, false, List, [], ◌∷◌, take, Some, None, refl}
use Rattle.std.specs.List.{flat_map}
use Rattle.lapi_base.specs.declared.message.Leg.TheVariants.{Go, Note}
use Rattle.lapi_base.specs.declared.event.Event.TheVariants.{Issue, Copy, Head, Land}
use Rattle.lapi_base.specs.declared.head.Head.{Head as PacketHead}
use Rattle.lapi_base.specs.declared.packet.Packet.TheVariants.{Data, Ack}
use Rattle.lapi_base.specs.declared.packet.DataPacket.{DataPacket}
use Rattle.lapi_base.specs.Packet.Layout.{unit_of, window_of}
use Rattle.lapi_base.specs.Record.Below.{every_below, below, least_missing, bits_of}
use Rattle.lapi_base.specs.Record.Names.{message, name_eq}
use Rattle.lapi_base.specs.Record.Operations.{numbers_below, statement}
use Rattle.lapi_base.specs.Record.Handlers.{has_completion}
use Rattle.lapi_base.specs.Record.Values.{scattered}
use Rattle.lapi_base.specs.Record.Wires.{has_number}
use Rattle.lapi_base.specs.Packet.PacketBytes as written
use Rattle.lapi_base.specs.Record.TaskPart.{events_at, part_at}
use Rattle.lapi_base.specs.Record.Arrived.{has_fragment, has_some, whole_by, payload_of, assembled, number_bound, least_number, ack_of, count_of, comes}
use Rattle.lapi_base.specs.Record.HeadSays.{announces, lands, follows}
use Rattle.lapi_laws.proofs.WorkedRuns.{builtin, run, wire_of, smallest_run, no_bytes_three_counters}
use Rattle.lapi_laws.proofs.WorkedRunsOfSecondLayout.{held_back, answering}

-- Eight bytes that are put: the packet, and the acknowledgement.
letters : List ℕ
letters = 0x61 ∷ 0x62 ∷ 0x63 ∷ 0x64 ∷ 0x65 ∷ 0x66 ∷ 0x67 ∷ 0x68 ∷ []

put_packet : DataPacket
put_packet = record { layout = 1; from = 0; to = 1; seq = 0; name = message 0 1 Go; head = PacketHead.Put 16 None None; length = 8; fragment = 0; payload = letters }

put-written : flat_map written.packet (wire_of smallest_run 0 1) ≡ 0x4c ∷ 1 ∷ 1 ∷ 0 ∷ 1 ∷ 0 ∷ 0 ∷ 0 ∷ 0 ∷ 0 ∷ 0 ∷ 1 ∷ 1 ∷ 1 ∷ 0 ∷ 0 ∷ 0 ∷ 8 ∷ 0 ∷ 0 ∷ 0 ∷ 0 ∷ 0 ∷ 0x10 ∷ 0xff ∷ 0xff ∷ letters
unfolding run letters
put-written = refl

ack-written : flat_map written.packet (wire_of smallest_run 1 0) ≡ 0x4c ∷ 1 ∷ 2 ∷ 1 ∷ 0 ∷ 0 ∷ 0 ∷ 0 ∷ 1 ∷ 0 ∷ 0 ∷ 0 ∷ 0 ∷ []
unfolding run
ack-written = refl

-- The same run under the second layout: the packet, and the acknowledgement with eight bytes of bits.
second_layout-put : flat_map written.packet (wire_of held_back 0 1) ≡ 0x4c ∷ 2 ∷ 1 ∷ 0 ∷ 1 ∷ 0 ∷ 0 ∷ 0 ∷ 0 ∷ 0 ∷ 0 ∷ 1 ∷ 1 ∷ 1 ∷ 0 ∷ 0 ∷ 0 ∷ 8 ∷ 0 ∷ 0 ∷ 0 ∷ 0 ∷ 0 ∷ 0x10 ∷ 0xff ∷ 0xff ∷ letters
unfolding run letters
second_layout-put = refl

second_layout-ack : flat_map written.packet (wire_of held_back 1 0) ≡ 0x4c ∷ 2 ∷ 2 ∷ 1 ∷ 0 ∷ 0 ∷ 0 ∷ 0 ∷ 1 ∷ 0 ∷ 0 ∷ 0 ∷ 0 ∷ 0 ∷ 0 ∷ 0 ∷ 0 ∷ []
unfolding run
second_layout-ack = refl

-- An answer goes as an Echo, with the word's place and the completion counter in its head.
answer-written : flat_map written.packet (take 1 (wire_of answering 1 0)) ≡ 0x4c ∷ 2 ∷ 1 ∷ 1 ∷ 0 ∷ 0 ∷ 0 ∷ 0 ∷ 0 ∷ 0 ∷ 0 ∷ 1 ∷ 5 ∷ 6 ∷ 0 ∷ 0 ∷ 0 ∷ 4 ∷ 0 ∷ 0 ∷ 0 ∷ 0 ∷ 0 ∷ 0x20 ∷ 0 ∷ 0 ∷ 0 ∷ 0 ∷ 10 ∷ []
unfolding run
answer-written = refl

-- the parts of both tasks
origin-events : (part_at smallest_run.script 0 (run smallest_run)).events ≡ Copy (message 0 1 Go) ∷ Issue 0 1 ∷ Issue 0 0 ∷ []
unfolding run part_at events_at
origin-events = refl

origin-put : (part_at smallest_run.script 0 (run smallest_run)).put 1 ≡ Data put_packet ∷ []
unfolding run part_at put_packet letters
origin-put = refl

origin-handed : (part_at smallest_run.script 0 (run smallest_run)).handed 1 ≡ Ack 1 1 0 1 0 ∷ []
unfolding run part_at
origin-handed = refl

target-events : (part_at smallest_run.script 1 (run smallest_run)).events ≡ Land (message 0 1 Go) ∷ []
unfolding run part_at events_at
target-events = refl

target-handed : (part_at smallest_run.script 1 (run smallest_run)).handed 0 ≡ Data put_packet ∷ []
unfolding run part_at put_packet letters
target-handed = refl

-- what the packet does
put-comes : comes smallest_run.script builtin [] put_packet ≡ Land (message 0 1 Go) ∷ []
unfolding put_packet comes follows whole_by has_fragment has_some count_of unit_of every_below name_eq
put-comes = refl

put-lands : lands smallest_run.script builtin (λ t x. 0) 1 put_packet.name put_packet.head put_packet.length letters ≡ (16, letters) ∷ []
unfolding put_packet letters scattered
put-lands = refl

put-acked : ack_of smallest_run.script (Data put_packet ∷ []) 0 1 ≡ Ack 1 1 0 1 0
unfolding put_packet ack_of least_number number_bound least_missing every_below has_number bits_of window_of
put-acked = refl

-- A put of no bytes that tells its counters: the target's at its landing, the origin's by a notice.
empty_put : DataPacket
empty_put = record { layout = 1; from = 0; to = 1; seq = 0; name = message 0 0 Go; head = PacketHead.Put 64 (Some 0) (Some 0); length = 0; fragment = 0; payload = [] }

empty-comes : comes no_bytes_three_counters.script builtin [] empty_put ≡ Land (message 0 0 Go) ∷ Copy (message 0 0 Note) ∷ []
unfolding empty_put comes follows whole_by has_fragment has_some count_of unit_of every_below name_eq
empty-comes = refl

empty-announces : announces empty_put.head false ≡ Some 0
unfolding empty_put
empty-announces = refl

-- Two fragments of an active message without a completion, the second first.
fragment_of : (number : ℕ) → List ℕ → DataPacket
fragment_of n bytes = record { layout = 1; from = 0; to = 1; seq = n; name = message 0 0 Go; head = PacketHead.Am 0 (Some 2) None []; length = 300; fragment = n; payload = bytes }

-- the first to come has the Head, and no more
second-comes : comes smallest_run.script builtin [] (fragment_of 1 (7 ∷ [])) ≡ Head (message 0 0 Go) ∷ []
unfolding fragment_of comes follows whole_by has_fragment has_some count_of unit_of every_below name_eq
second-comes = refl

-- its acknowledgement tells that number 0 is missing and number 1 is there
second-acked : ack_of smallest_run.script (Data (fragment_of 1 (7 ∷ [])) ∷ []) 0 1 ≡ Ack 1 1 0 0 2
unfolding fragment_of ack_of least_number number_bound least_missing every_below has_number bits_of window_of
second-acked = refl

-- the other makes it whole, and the bytes stand in the order of the fragments
both-come : comes smallest_run.script builtin (Data (fragment_of 1 (7 ∷ [])) ∷ []) (fragment_of 0 (5 ∷ 6 ∷ [])) ≡ Land (message 0 0 Go) ∷ []
unfolding fragment_of comes follows whole_by has_fragment has_some count_of unit_of every_below name_eq has_completion statement
both-come = refl

both-bytes : assembled 2 (Data (fragment_of 0 (5 ∷ 6 ∷ [])) ∷ Data (fragment_of 1 (7 ∷ [])) ∷ []) (message 0 0 Go) ≡ 5 ∷ 6 ∷ 7 ∷ []
unfolding fragment_of assembled payload_of numbers_below below name_eq
both-bytes = refl

-- its counter rises at its landing, and with a completion not yet
am-announces : announces (fragment_of 0 []).head false ≡ Some 2
unfolding fragment_of
am-announces = refl

am-announces-later : announces (fragment_of 0 []).head true ≡ None
unfolding fragment_of
am-announces-later = refl
