-- Worked runs of the second layout and of completion handlers that answer, computed by the definitions alone.
use Rattle.std.proofs.Common.{◌≡◌, ℕ, true, false, List, [], ◌∷◌, ◌++◌, drop, take, refl, Option, None, Some}
use Rattle.lapi_base.specs.declared.address.Addr.TheVariants.{Plain}
use Rattle.lapi_base.specs.declared.statement.Statement.{Statement}
use Rattle.lapi_base.specs.declared.statement.Statement.TheVariants.{Store, Put, Am, Fence}
use Rattle.lapi_base.specs.declared.message.Leg.TheVariants.{Go, Note, Echo}
use Rattle.lapi_base.specs.declared.event.Event.{Event}
use Rattle.lapi_base.specs.declared.event.Event.TheVariants.{Issue, Pass, Copy, Land}
use Rattle.lapi_base.specs.declared.schedule.Act.{Act}
use Rattle.lapi_base.specs.declared.schedule.Act.TheVariants.{Step, Poll, Tick, Deliver}
use Rattle.lapi_base.specs.declared.reply.Reply.TheVariants.{Did, Blocked}
use Rattle.lapi_base.specs.declared.head.Head.{Head}
use Rattle.lapi_base.specs.declared.packet.Packet.TheVariants.{Data, Ack}
use Rattle.lapi_base.specs.Record.Names.{message}
use Rattle.lapi_base.specs.Record.Atomic.{has_message}
use Rattle.lapi_base.specs.Record.Final.{is_settled, is_idle, is_quiet}
use Rattle.lapi_laws.proofs.WorkedRuns.{builtin, Row, smallest_run, run, journal_of, replies_of, wire_of, bytes_of, counters_of, zeros}
use Rattle.lapi_laws.proofs.WorkedRunsForMistakes.{header, quiet_after}

abbrev in_layout : ℕ → Row → Row
in_layout n row = record { script = record row.script { layout = n }; lines = row.lines }

-- Acknowledgements that are held back.

-- The smallest run under the second layout: the delivery puts nothing on the wire back, the receiver's poll does.
abbrev pub held_back : Row
held_back = record { script = (in_layout 2 smallest_run).script; lines = Step 0 ∷ Step 0 ∷ Poll 0 ∷ Deliver 0 1 0 ∷ Poll 1 ∷ Deliver 1 0 0 ∷ [] }

abbrev delivered : Row
delivered = record held_back { lines = take 4 held_back.lines }

held_back-journal : journal_of held_back ≡ Issue 0 0 ∷ Issue 0 1 ∷ Copy (message 0 1 Go) ∷ Land (message 0 1 Go) ∷ []
unfolding run
held_back-journal = refl

held_back-data : wire_of held_back 0 1 ≡ Data (record { layout = 2; from = 0; to = 1; seq = 0; name = message 0 1 Go; head = Head.Put 16 None None; length = 8; fragment = 0; payload = 0x61 ∷ 0x62 ∷ 0x63 ∷ 0x64 ∷ 0x65 ∷ 0x66 ∷ 0x67 ∷ 0x68 ∷ [] }) ∷ []
unfolding run
held_back-data = refl

held_back-acks : wire_of held_back 1 0 ≡ Ack 2 1 0 1 0 ∷ []
unfolding run
held_back-acks = refl

held_back-quiet : quiet_after 6 held_back ≡ true
unfolding run is_quiet is_settled is_idle
held_back-quiet = refl

delivered-acks : wire_of delivered 1 0 ≡ []
unfolding run
delivered-acks = refl

delivered-owed : (run delivered).owed 0 1 ≡ true
unfolding run
delivered-owed = refl

-- What was handed over makes its receiver owe, no other task.
delivered-others : (run delivered).owed 1 0 ≡ false
unfolding run
delivered-others = refl

-- An acknowledgement that is handed over makes nothing owed.
held_back-none_owed : (run held_back).owed 1 0 ≡ false
unfolding run
held_back-none_owed = refl

-- A tick doesn't pay what is owed, nor does another task's poll; the receiver's poll pays it once.
abbrev ticked : Row
ticked = record held_back { lines = take 4 held_back.lines ++ Tick 1 ∷ Poll 0 ∷ [] }

abbrev polled_twice : Row
polled_twice = record held_back { lines = ticked.lines ++ Poll 1 ∷ Poll 1 ∷ [] }

ticked-acks : wire_of ticked 1 0 ≡ []
unfolding run
ticked-acks = refl

ticked-owed : (run ticked).owed 0 1 ≡ true
unfolding run
ticked-owed = refl

polled_twice-acks : wire_of polled_twice 1 0 ≡ Ack 2 1 0 1 0 ∷ []
unfolding run
polled_twice-acks = refl

polled_twice-owed : (run polled_twice).owed 0 1 ≡ false
unfolding run
polled_twice-owed = refl

-- A packet that comes again lands nothing, and is acknowledged again at the next poll.
abbrev repeated : Row
repeated = record held_back { lines = Step 0 ∷ Step 0 ∷ Poll 0 ∷ Deliver 0 1 0 ∷ Poll 1 ∷ Tick 0 ∷ Deliver 0 1 1 ∷ Poll 1 ∷ Deliver 1 0 1 ∷ [] }

repeated-journal : journal_of repeated ≡ Issue 0 0 ∷ Issue 0 1 ∷ Copy (message 0 1 Go) ∷ Land (message 0 1 Go) ∷ []
unfolding run
repeated-journal = refl

repeated-acks : wire_of repeated 1 0 ≡ Ack 2 1 0 1 0 ∷ Ack 2 1 0 1 0 ∷ []
unfolding run
repeated-acks = refl

-- It is not quiet while an acknowledgement is owed, though all else is done.
repeated-owes : quiet_after 4 repeated ≡ false
unfolding run is_quiet is_settled is_idle
repeated-owes = refl

repeated-owes_again : quiet_after 7 (record repeated { lines = Step 0 ∷ Step 0 ∷ Poll 0 ∷ Deliver 0 1 0 ∷ Poll 1 ∷ Deliver 1 0 0 ∷ Deliver 0 1 0 ∷ [] }) ≡ false
unfolding run is_quiet is_settled is_idle
repeated-owes_again = refl

repeated-quiet : quiet_after 9 repeated ≡ true
unfolding run is_quiet is_settled is_idle
repeated-quiet = refl

-- A poll puts data on a wire before what is owed there.
abbrev both_ways : Row
both_ways =
    record {
      script = record { layout = 2; tasks = 2; memory = 64; counters = 0; workers = 1; lists = (Put 1 (Plain 0) 0 0 None None None ∷ []) ∷ (Put 0 (Plain 0) 0 0 None None None ∷ []) ∷ [] };
      lines = Step 0 ∷ Step 1 ∷ Poll 0 ∷ Deliver 0 1 0 ∷ Poll 1 ∷ [];
    }

both_ways-wire : wire_of both_ways 1 0 ≡ Data (record { layout = 2; from = 1; to = 0; seq = 0; name = message 1 0 Go; head = Head.Put 0 None None; length = 0; fragment = 0; payload = [] }) ∷ Ack 2 1 0 1 0 ∷ []
unfolding run
both_ways-wire = refl

-- Completion handlers that answer.

-- Task 0 sends four bytes to place 0x10 of task 1, whose completion handler 4 has their sum for a place at task 0.
abbrev asks : (user : ℕ) (cmpl : Option ℕ) → List Statement
asks user cmpl = Store 0 (1 ∷ 2 ∷ 3 ∷ 4 ∷ []) ∷ Am 1 1 (header 0x10 user 4) 0 4 (Some 0) None cmpl ∷ Fence ∷ []

abbrev up_to_end : List Act
up_to_end = Step 0 ∷ Step 0 ∷ Poll 0 ∷ Deliver 0 1 0 ∷ Act.Begin 1 0 ∷ Act.End 1 0 ∷ []

abbrev asking : (layout user : ℕ) (cmpl : Option ℕ) → Row
asking layout user cmpl = record { script = record { layout = layout; tasks = 2; memory = 64; counters = 4; workers = 1; lists = asks user cmpl ∷ [] ∷ [] }; lines = up_to_end }

-- The word comes back to the origin in the place of the notice, and tells the completion counter when it lands.
abbrev pub answering : Row
answering = record (asking 2 0x20 (Some 0)) { lines = up_to_end ++ Poll 1 ∷ Deliver 1 0 0 ∷ Deliver 1 0 1 ∷ Poll 0 ∷ Deliver 0 1 1 ∷ [] }

answering-journal : journal_of answering ≡ Issue 0 0 ∷ Issue 0 1 ∷ Copy (message 0 1 Go) ∷ Event.Head (message 0 1 Go) ∷ Land (message 0 1 Go) ∷ Event.Begin (message 0 1 Go) 1 0 ∷ Event.End (message 0 1 Go) 1 0 ∷ Copy (message 0 1 Echo) ∷ Land (message 0 1 Echo) ∷ []
unfolding run
answering-journal = refl

answering-word : bytes_of answering 0 0x20 ≡ 0 ∷ 0 ∷ 0 ∷ 10 ∷ zeros 12
unfolding run
answering-word = refl

-- At the target the message's bytes stand as they came, and the answer writes nothing.
answering-buffer : bytes_of answering 1 0x10 ≡ 1 ∷ 2 ∷ 3 ∷ 4 ∷ zeros 12
unfolding run
answering-buffer = refl

answering-nothing : bytes_of answering 1 0x20 ≡ zeros 16
unfolding run
answering-nothing = refl

answering-origin : counters_of answering 0 ≡ 1 ∷ zeros 3
unfolding run
answering-origin = refl

answering-target : counters_of answering 1 ≡ 1 ∷ zeros 3
unfolding run
answering-target = refl

answering-wire : wire_of answering 1 0 ≡ Data (record { layout = 2; from = 1; to = 0; seq = 0; name = message 0 1 Echo; head = Head.Echo 0x20 (Some 0); length = 4; fragment = 0; payload = 0 ∷ 0 ∷ 0 ∷ 10 ∷ [] }) ∷ Ack 2 1 0 1 0 ∷ []
unfolding run
answering-wire = refl

answering-quiet : quiet_after 11 answering ≡ true
unfolding run is_quiet is_settled is_idle
answering-quiet = refl

-- It has an Echo and no Note, and a message that doesn't answer a Note and no Echo.
answering-has_echo : has_message answering.script builtin (message 0 1 Echo) ≡ true
unfolding run
answering-has_echo = refl

answering-has_no_note : has_message answering.script builtin (message 0 1 Note) ≡ false
unfolding run
answering-has_no_note = refl

-- Without a completion counter it answers all the same.
uncounted : drop 6 (journal_of (asking 2 0x20 None)) ≡ Event.End (message 0 1 Go) 1 0 ∷ Copy (message 0 1 Echo) ∷ []
unfolding run
uncounted = refl

-- A fence doesn't wait for the answer, which is not even copied when it passes.
abbrev fenced : Row
fenced = record answering { lines = Step 0 ∷ Step 0 ∷ Poll 0 ∷ Deliver 0 1 0 ∷ Step 0 ∷ Poll 1 ∷ Deliver 1 0 0 ∷ Step 0 ∷ Act.Begin 1 0 ∷ Act.End 1 0 ∷ [] }

fenced-replies : replies_of fenced ≡ Did ∷ Did ∷ Did ∷ Did ∷ Blocked ∷ Did ∷ Did ∷ Did ∷ Did ∷ Did ∷ []
unfolding run
fenced-replies = refl

fenced-journal : drop 5 (journal_of fenced) ≡ Pass 0 2 ∷ Event.Begin (message 0 1 Go) 1 0 ∷ Event.End (message 0 1 Go) 1 0 ∷ Copy (message 0 1 Echo) ∷ []
unfolding run
fenced-journal = refl

-- The last word of the memory can be answered to, and none behind it; nor can an address that is no word's, nor
-- anything under the first layout. There the notice is sent.
last_word : drop 6 (journal_of (asking 2 60 (Some 0))) ≡ Event.End (message 0 1 Go) 1 0 ∷ Copy (message 0 1 Echo) ∷ []
unfolding run
last_word = refl

outside : drop 6 (journal_of (asking 2 64 (Some 0))) ≡ Event.End (message 0 1 Go) 1 0 ∷ Copy (message 0 1 Note) ∷ []
unfolding run
outside = refl

between_words : drop 6 (journal_of (asking 2 0x22 (Some 0))) ≡ Event.End (message 0 1 Go) 1 0 ∷ Copy (message 0 1 Note) ∷ []
unfolding run
between_words = refl

first_layout : drop 6 (journal_of (asking 1 0x20 (Some 0))) ≡ Event.End (message 0 1 Go) 1 0 ∷ Copy (message 0 1 Note) ∷ []
unfolding run
first_layout = refl
