-- Lines of the texts by the definitions alone, each written out.
use Rattle.std.proofs.Common.{◌≡◌, ℕ, List, [], ◌∷◌, ◌++◌, replicate, Some, refl}
use Rattle.std.specs.Prelude.{codes}
use Rattle.std.specs.Fmt.{digits}
use Rattle.hex.specs.Hex.{encode_with}
use Rattle.lapi_base.specs.declared.message.Leg.{Leg}
use Rattle.lapi_base.specs.declared.message.Leg.TheVariants.{Go, Back, Echo, Join}
use Rattle.lapi_base.specs.declared.message.MsgName.{MsgName}
use Rattle.lapi_base.specs.declared.head.Head.TheVariants as Head
use Rattle.lapi_base.specs.declared.packet.Packet.TheVariants as Packet
use Rattle.lapi_base.specs.declared.packet.DataPacket.{DataPacket}
use Rattle.lapi_base.specs.declared.refusal.Refusal.TheVariants.{NoTable, StrideBelowBlock}
use Rattle.lapi_base.specs.declared.reply.Reason.TheVariants.{NotCanonical}
use Rattle.lapi_base.specs.declared.reply.Reply.{Reply}
use Rattle.lapi_base.specs.declared.reply.Reply.TheVariants.{Did, Blocked, Absent, Idle, Busy, Bad}
use Rattle.lapi_base.specs.declared.event.Event.TheVariants as events
use Rattle.lapi_base.specs.declared.schedule.Act.{Act}
use Rattle.lapi_base.specs.declared.schedule.Act.TheVariants.{Poll, Tick, Deliver, Cut, Inject, Begin, End}
use Rattle.lapi_base.specs.Record.Below.{below}
use Rattle.lapi_base.specs.Record.Operations.{numbers_below}
use Rattle.lapi_base.specs.Output.JournalText.{event_line}
use Rattle.lapi_base.specs.Output.PacketText.{packet_line}
use Rattle.lapi_base.specs.Output.TraceText.{trace_line}
use Rattle.lapi_base.specs.Output.ReportText.{statements_text, memory_text}

abbrev message : Leg → MsgName
message leg = record { origin = 0; statement = 1; leg = leg }

entered : event_line (events.Enter 1 0) ≡ codes "enter 1.0\n"
unfolding digits
entered = refl

table_missing : event_line (events.Refuse 0 0 NoTable) ≡ codes "refuse 0.0 6 NoTable\n"
unfolding digits
table_missing = refl

copied_back : event_line (events.Copy (message Back)) ≡ codes "copy 0.1 back\n"
unfolding digits
copied_back = refl

copied_join : event_line (events.Copy (message (Join 7))) ≡ codes "copy 0.1 join-7\n"
unfolding digits
copied_join = refl

head_come : event_line (events.Head (message Go)) ≡ codes "head 0.1\n"
unfolding digits
head_come = refl

begun : event_line (events.Begin (message Go) 1 0) ≡ codes "begin 0.1 1.0\n"
unfolding digits
begun = refl

ended : event_line (events.End (message Go) 1 0) ≡ codes "end 0.1 1.0\n"
unfolding digits
ended = refl

abbrev traced : Act → Reply → List ℕ
traced act reply = trace_line (record { lane = 15; act = act }) reply

poll_blocked : traced (Poll 1) Blocked ≡ codes "15 poll 1 : blocked\n"
unfolding digits
poll_blocked = refl

tick_idle : traced (Tick 2) Idle ≡ codes "15 tick 2 : idle\n"
unfolding digits
tick_idle = refl

nothing_there : traced (Deliver 0 1 32) Absent ≡ codes "15 deliver 0 1 32 : absent\n"
unfolding digits
nothing_there = refl

cut_refused : traced (Cut 0 1 2 3) (Bad (record { place = 9; reason = NotCanonical })) ≡ codes "15 cut 0 1 2 3 : bad 9 8\n"
unfolding digits
cut_refused = refl

no_bytes_injected : traced (Inject 0 1 []) Did ≡ codes "15 inject 0 1 - : did\n"
unfolding digits encode_with
no_bytes_injected = refl

bytes_injected : traced (Inject 1 0 (0x4d ∷ 0xff ∷ [])) Did ≡ codes "15 inject 1 0 4dff : did\n"
unfolding digits encode_with
bytes_injected = refl

worker_busy : traced (Begin 1 3) Busy ≡ codes "15 begin 1 3 : busy\n"
unfolding digits
worker_busy = refl

worker_done : traced (End 1 0) Did ≡ codes "15 end 1 0 : did\n"
unfolding digits
worker_done = refl

-- the text of a packet tells its layout
first_acknowledgement : packet_line (Packet.Ack 1 1 0 1 2) ≡ codes "ack from 1 to 0 base 1 bits 00000002\n"
unfolding digits encode_with
first_acknowledgement = refl

second_acknowledgement : packet_line (Packet.Ack 2 1 0 1 2) ≡ codes "ack2 from 1 to 0 base 1 bits 0000000000000002\n"
unfolding digits encode_with
second_acknowledgement = refl

abbrev answer : DataPacket
answer = record { layout = 2; from = 1; to = 0; seq = 0; name = message Echo; head = Head.Echo 32 (Some 0); length = 4; fragment = 0; payload = 0 ∷ 0 ∷ 0 ∷ 10 ∷ [] }

answer_line : packet_line (Packet.Data answer) ≡ codes "data2 from 1 to 0 seq 0 message 0.1 echo op am length 4 fragment 0 dest 32 cmpl 0 payload 0000000a\n"
unfolding digits encode_with
answer_line = refl

-- what was refused and what was read stand in one list, by their statements
refused_and_read : statements_text 1 5 ((0, NoTable) ∷ (3, StrideBelowBlock) ∷ []) ((2, 5) ∷ (4, 18446744073709551615) ∷ []) ≡ codes "refused 1 0 6 NoTable\nread 1 2 5\nrefused 1 3 11 StrideBelowBlock\nread 1 4 18446744073709551615\n"
unfolding digits numbers_below below
refused_and_read = refl

-- rows of zeros are left out, and the last row may be short
rows_of_68_bytes : memory_text 1 (replicate 16 0 ++ 0x61 ∷ replicate 50 0 ++ 1 ∷ []) ≡ codes "memory 1 0010 61000000000000000000000000000000\nmemory 1 0040 00000001\n"
unfolding digits encode_with numbers_below below
rows_of_68_bytes = refl
