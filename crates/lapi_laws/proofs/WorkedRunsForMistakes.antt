-- More small runs, computed by the definitions alone: orders, bounds, rounds, jobs, fragments and quiet.
use Rattle.std.proofs.Common.{◌≡◌, ℕ, ◌==◌, Bool, true, false, not, List, [], ◌∷◌, ◌++◌, drop, length, map, take, replicate, refl, sym, ap, Some, None, is_some}
use Rattle.std.proofs.lemmas.Bool.{false≢true}
use Rattle.lapi_base.specs.declared.address.Addr.TheVariants.{Plain, Table}
use Rattle.lapi_base.specs.declared.piece.Piece.{Piece}
use Rattle.lapi_base.specs.declared.span.Span.{Span}
use Rattle.lapi_base.specs.declared.vector.Vector.{Vector}
use Rattle.lapi_base.specs.declared.vector.Vector.TheVariants.{Stride}
use Rattle.lapi_base.specs.declared.statement.RmwOp.TheVariants.{Add}
use Rattle.lapi_base.specs.declared.statement.Statement.{Statement}
use Rattle.lapi_base.specs.declared.statement.Statement.TheVariants.{Store, Put, Get, Putv, Getv, Rmw, Am, Wait, Set, Read, Fence, Gfence}
use Rattle.lapi_base.specs.declared.script.Script.{Script}
use Rattle.lapi_base.specs.declared.message.Leg.TheVariants.{Go, Back, Note, Join}
use Rattle.lapi_base.specs.declared.refusal.Refusal.TheVariants.{BadTask, BadTargetRange, BadOriginRange, BadCounter, TooLong, NoTable, BadHandler, BadUserHeader, VecCount, VecLength, StrideBelowBlock, Misaligned}
use Rattle.lapi_base.specs.declared.event.Event.{Event}
use Rattle.lapi_base.specs.declared.event.Event.TheVariants.{Issue, Refuse, Enter, Pass, Copy, Land}
use Rattle.lapi_base.specs.declared.schedule.Act.{Act}
use Rattle.lapi_base.specs.declared.schedule.Act.TheVariants.{Step, Poll, Tick, Deliver, Cut, Inject}
use Rattle.lapi_base.specs.declared.reply.Reason.TheVariants.{Short}
use Rattle.lapi_base.specs.declared.reply.Reply.{Reply}
use Rattle.lapi_base.specs.declared.reply.Reply.TheVariants.{Did, Blocked, Absent, Idle, Busy}
use Rattle.lapi_base.specs.declared.head.Head.{Head}
use Rattle.lapi_base.specs.declared.head.NoteOp.{NoteOp}
use Rattle.lapi_base.specs.declared.packet.Packet.{Packet}
use Rattle.lapi_base.specs.declared.packet.Packet.TheVariants.{Data, Ack}
use Rattle.lapi_base.specs.Record.Names.{message, Issued, Entered, Copied, Headed, Landed, Begun, Ended}
use Rattle.lapi_base.specs.Record.Operations.{numbers_below}
use Rattle.lapi_base.specs.Record.Handlers.{buffer, has_completion, user}
use Rattle.lapi_base.specs.Record.Acts.{run_of, deliveries}
use Rattle.lapi_base.specs.Record.Atomic.{Keeps, is_there, passes, job_turn, needs, chain, landed_before, all_cleared}
use Rattle.lapi_base.specs.Record.Final.{is_settled, is_idle, is_quiet}
use Rattle.lapi_laws.proofs.WorkedRuns.{builtin, Row, two_tasks, run, journal_of, replies_of, wire_of, bytes_of, counters_of, piece, zeros, smallest_run, no_bytes_three_counters}

-- the numbers of the data packets among these, and their heads
unfoldable numbers : List Packet → List ℕ
numbers [] = []
numbers (Data p ∷ ps) = p.seq ∷ numbers ps
numbers (Ack layout from to base bits ∷ ps) = numbers ps

unfoldable heads : List Packet → List Head
heads [] = []
heads (Data p ∷ ps) = p.head ∷ heads ps
heads (Ack layout from to base bits ∷ ps) = heads ps

abbrev span : (at len : ℕ) → Span
span at len = record { at = at; len = len }

-- the first lines of a row
abbrev pub first_lines : ℕ → Row → Row
first_lines n row = record row { lines = take n row.lines }

abbrev with_workers : ℕ → Row → Row
with_workers n row = record row { script = record row.script { workers = n } }

abbrev pub quiet_after : ℕ → Row → Bool
quiet_after n row = is_quiet row.script builtin (run (first_lines n row))

-- Fences and waits.

-- A fence after a put waits until the acknowledgement has arrived, not only until the packet was sent or landed.
abbrev fence_after_a_put : Row
fence_after_a_put =
    two_tasks 64
    (Put 1 (Plain 0) 0 4 None None None ∷ Fence ∷ [])
    []
    (Step 0 ∷ Poll 0 ∷ Step 0 ∷ Deliver 0 1 0 ∷ Step 0 ∷ Deliver 1 0 0 ∷ Step 0 ∷ [])

fence_after_a_put-replies : replies_of fence_after_a_put ≡ Did ∷ Did ∷ Blocked ∷ Did ∷ Blocked ∷ Did ∷ Did ∷ []
unfolding run
fence_after_a_put-replies = refl

-- A refused operation holds up no fence.
abbrev fence_after_a_refusal : Row
fence_after_a_refusal = two_tasks 64 (Put 2 (Plain 0) 0 4 None None None ∷ Fence ∷ []) [] (Step 0 ∷ Step 0 ∷ [])

fence_after_a_refusal-journal : journal_of fence_after_a_refusal ≡ Refuse 0 0 BadTask ∷ Pass 0 1 ∷ []
unfolding run
fence_after_a_refusal-journal = refl

-- A wait blocks where its counter is one short, and passes at its value.
abbrev wait_one_short : Row
wait_one_short = two_tasks 64 (Set 0 2 ∷ Wait 0 3 ∷ []) (Set 0 3 ∷ Wait 0 3 ∷ []) (Step 0 ∷ Step 0 ∷ Step 1 ∷ Step 1 ∷ [])

wait_one_short-replies : replies_of wait_one_short ≡ Did ∷ Blocked ∷ Did ∷ Did ∷ []
unfolding run
wait_one_short-replies = refl

wait_one_short-first : counters_of wait_one_short 0 ≡ 2 ∷ zeros 3
unfolding run
wait_one_short-first = refl

wait_one_short-second : counters_of wait_one_short 1 ≡ zeros 4
unfolding run
wait_one_short-second = refl

-- The atomic machine doesn't let that wait pass.
wait_one_short-kept : passes wait_one_short.script builtin (Issue 0 0 ∷ []) (Pass 0 1) ≡ false
unfolding run
wait_one_short-kept = refl

wait_one_short-passed : passes wait_one_short.script builtin (Issue 1 0 ∷ []) (Pass 1 1) ≡ true
unfolding run
wait_one_short-passed = refl

-- The atomic machine lets a fence pass where the data have landed, and not before.
fence_after_a_put-kept : passes fence_after_a_put.script builtin (Copy (message 0 0 Go) ∷ Issue 0 0 ∷ []) (Pass 0 1) ≡ false
unfolding run landed_before
fence_after_a_put-kept = refl

fence_after_a_put-passed : passes fence_after_a_put.script builtin (Land (message 0 0 Go) ∷ Copy (message 0 0 Go) ∷ Issue 0 0 ∷ []) (Pass 0 1) ≡ true
unfolding run landed_before
fence_after_a_put-passed = refl

-- Packets.

-- A tick sends again exactly what was sent and isn't acknowledged, and copies nothing.
abbrev tick_after_one_of_three : Row
tick_after_one_of_three =
    two_tasks 64
    (replicate 4 (Put 1 (Plain 0) 0 0 None None None))
    []
    (Step 0 ∷ Step 0 ∷ Step 0 ∷ Poll 0 ∷ Deliver 0 1 1 ∷ Deliver 1 0 0 ∷ Step 0 ∷ Tick 0 ∷ Tick 1 ∷ [])

tick_after_one_of_three-numbers : numbers (wire_of tick_after_one_of_three 0 1) ≡ 0 ∷ 1 ∷ 2 ∷ 0 ∷ 2 ∷ []
unfolding run numbers
tick_after_one_of_three-numbers = refl

tick_after_one_of_three-acks : wire_of tick_after_one_of_three 1 0 ≡ Ack 1 1 0 0 2 ∷ []
unfolding run
tick_after_one_of_three-acks = refl

-- A poll sends 32 numbers, and one more when the first is acknowledged.
abbrev full_window : Row
full_window =
    two_tasks 64
    (replicate 34 (Put 1 (Plain 0) 0 0 None None None))
    []
    (replicate 34 (Step 0) ++ Poll 0 ∷ Deliver 0 1 0 ∷ Deliver 1 0 0 ∷ Poll 0 ∷ [])

full_window-before : numbers (wire_of (first_lines 35 full_window) 0 1) ≡ numbers_below 32
unfolding run numbers
full_window-before = refl

full_window-after : numbers (wire_of full_window 0 1) ≡ numbers_below 33
unfolding run numbers
full_window-after = refl

-- A cut below the length of a packet is refused at its place; the length and an entry that isn't there are absent.
abbrev cut_lines : List Act
cut_lines = Step 0 ∷ Poll 0 ∷ Cut 0 1 0 4 ∷ Cut 0 1 0 5 ∷ Cut 0 1 1 0 ∷ Deliver 0 1 1 ∷ Inject 0 1 (9 ∷ []) ∷ []

cut_lines-replies : (run_of fence_after_a_put.script builtin (λ p. 5) (λ bytes. record { place = length bytes; reason = Short }) cut_lines).replies ≡ Did ∷ Did ∷ Reply.Bad (record { place = 4; reason = Short }) ∷ Absent ∷ Absent ∷ Absent ∷ Reply.Bad (record { place = 1; reason = Short }) ∷ []
unfolding run
cut_lines-replies = refl

-- An active message of two packets, the second first and twice: the head comes with the first arrival and the landing with the last.
abbrev two_packets_second_first : Row
two_packets_second_first =
    two_tasks 1024
    (Store 256 (7 ∷ []) ∷ Am 1 0 (0 ∷ 0 ∷ 1 ∷ 0 ∷ []) 0 257 (Some 0) (Some 1) (Some 2) ∷ [])
    []
    (Step 0 ∷ Step 0 ∷ Poll 0 ∷ Deliver 0 1 1 ∷ Deliver 0 1 1 ∷ Deliver 0 1 0 ∷ Poll 1 ∷ [])

two_packets_second_first-journal : journal_of two_packets_second_first ≡ Issue 0 0 ∷ Issue 0 1 ∷ Copy (message 0 1 Go) ∷ Event.Head (message 0 1 Go) ∷ Land (message 0 1 Go) ∷ Copy (message 0 1 Note) ∷ []
unfolding run
two_packets_second_first-journal = refl

two_packets_second_first-second : drop 1 (wire_of two_packets_second_first 0 1) ≡ Data (record { layout = 1; from = 0; to = 1; seq = 1; name = message 0 1 Go; head = Head.Am 0 (Some 0) (Some 2) (0 ∷ 0 ∷ 1 ∷ 0 ∷ []); length = 257; fragment = 1; payload = 7 ∷ [] }) ∷ []
unfolding run
two_packets_second_first-second = refl

two_packets_second_first-answers : wire_of two_packets_second_first 1 0 ≡ Ack 1 1 0 0 2 ∷ Ack 1 1 0 0 2 ∷ Ack 1 1 0 2 0 ∷ Data (record { layout = 1; from = 1; to = 0; seq = 0; name = message 0 1 Note; head = Head.Note NoteOp.Am 2; length = 0; fragment = 0; payload = [] }) ∷ []
unfolding run
two_packets_second_first-answers = refl

two_packets_second_first-bytes : bytes_of two_packets_second_first 1 0x200 ≡ 7 ∷ zeros 15
unfolding run
two_packets_second_first-bytes = refl

two_packets_second_first-origin : counters_of two_packets_second_first 0 ≡ 0 ∷ 1 ∷ zeros 2
unfolding run
two_packets_second_first-origin = refl

two_packets_second_first-target : counters_of two_packets_second_first 1 ≡ 1 ∷ zeros 3
unfolding run
two_packets_second_first-target = refl

-- What was handed over on a wire, in the order of the lines; an entry that came only later was not.
abbrev absent_first : Row
absent_first = record two_packets_second_first { lines = Deliver 0 1 0 ∷ two_packets_second_first.lines ++ Deliver 1 0 0 ∷ [] }

absent_first-handed : numbers (deliveries (wire_of absent_first 0 1) 0 1 absent_first.lines (replies_of absent_first)) ≡ 1 ∷ 1 ∷ 0 ∷ []
unfolding run numbers deliveries
absent_first-handed = refl

-- A poll copies in the order of statements, and to the other tasks by rising number.
abbrev three_tasks : Row
three_tasks = record {
  script = record { layout = 1; tasks = 3; memory = 64; counters = 4; workers = 1; lists = [] ∷ (Put 2 (Plain 0) 0 0 None None None ∷ Statement.Addr 0 ∷ []) ∷ [] ∷ [] };
  lines = Step 1 ∷ Step 1 ∷ Poll 1 ∷ Step 1 ∷ [];
}

three_tasks-journal : journal_of three_tasks ≡ Issue 1 0 ∷ Enter 1 1 ∷ Copy (message 1 0 Go) ∷ Copy (message 1 1 (Join 0)) ∷ Copy (message 1 1 (Join 2)) ∷ []
unfolding run
three_tasks-journal = refl

-- A put carries what its source holds at the poll, not at its step nor at its landing, and lands once.
abbrev source_read_at_poll : Row
source_read_at_poll =
    two_tasks 64
    (Store 0 (1 ∷ []) ∷ Put 1 (Plain 16) 0 1 None None None ∷ Store 0 (2 ∷ []) ∷ Store 0 (3 ∷ []) ∷ [])
    []
    (Step 0 ∷ Step 0 ∷ Step 0 ∷ Poll 0 ∷ Step 0 ∷ Deliver 0 1 0 ∷ Tick 0 ∷ Deliver 0 1 1 ∷ [])

source_read_at_poll-target : bytes_of source_read_at_poll 1 0x10 ≡ 2 ∷ zeros 15
unfolding run
source_read_at_poll-target = refl

source_read_at_poll-journal : journal_of source_read_at_poll ≡ Issue 0 0 ∷ Issue 0 1 ∷ Issue 0 2 ∷ Copy (message 0 1 Go) ∷ Issue 0 3 ∷ Land (message 0 1 Go) ∷ []
unfolding run
source_read_at_poll-journal = refl

-- Vectors.

-- Pieces are read and written in the order of their lists, so the last one that covers a byte stays.
abbrev overlapping_pieces : Row
overlapping_pieces =
    two_tasks 64
    (Store 0 (1 ∷ 2 ∷ 3 ∷ 4 ∷ 5 ∷ 6 ∷ 7 ∷ 8 ∷ []) ∷ Putv 1 (Vector.List (piece 16 4 ∷ piece 18 4 ∷ [])) (Vector.List (piece 4 4 ∷ piece 0 4 ∷ [])) (Some 1) (Some 0) (Some 2) ∷ [])
    []
    (Step 0 ∷ Step 0 ∷ Poll 0 ∷ Deliver 0 1 0 ∷ Poll 1 ∷ [])

overlapping_pieces-target : bytes_of overlapping_pieces 1 0x10 ≡ 5 ∷ 6 ∷ 1 ∷ 2 ∷ 3 ∷ 4 ∷ zeros 10
unfolding run
overlapping_pieces-target = refl

overlapping_pieces-packet : wire_of overlapping_pieces 0 1 ≡ Data (record { layout = 1; from = 0; to = 1; seq = 0; name = message 0 1 Go; head = Head.Putv (Some 1) (Some 2) (span 16 4 ∷ span 18 4 ∷ []); length = 8; fragment = 0; payload = 5 ∷ 6 ∷ 7 ∷ 8 ∷ 1 ∷ 2 ∷ 3 ∷ 4 ∷ [] }) ∷ []
unfolding run
overlapping_pieces-packet = refl

overlapping_pieces-notice : heads (wire_of overlapping_pieces 1 0) ≡ Head.Note NoteOp.Putv 2 ∷ []
unfolding run heads
overlapping_pieces-notice = refl

overlapping_pieces-origin-counters : counters_of overlapping_pieces 0 ≡ 1 ∷ zeros 3
unfolding run
overlapping_pieces-origin-counters = refl

overlapping_pieces-target-counters : counters_of overlapping_pieces 1 ≡ 0 ∷ 1 ∷ zeros 2
unfolding run
overlapping_pieces-target-counters = refl

-- A strided read into another stride; the target's counter rises when the bytes are copied there, the origin's when they land.
abbrev strided_read : Row
strided_read =
    two_tasks 64
    (Getv 1 (Stride (Plain 0) 2 4 2) (Stride (Plain 16) 2 3 2) (Some 0) (Some 1) ∷ [])
    (Store 0 (1 ∷ 2 ∷ 3 ∷ 4 ∷ 5 ∷ 6 ∷ 7 ∷ 8 ∷ []) ∷ [])
    (Step 1 ∷ Step 0 ∷ Poll 0 ∷ Deliver 0 1 0 ∷ Poll 1 ∷ Deliver 1 0 1 ∷ [])

strided_read-bytes : bytes_of strided_read 0 0x10 ≡ 1 ∷ 2 ∷ 0 ∷ 5 ∷ 6 ∷ zeros 11
unfolding run
strided_read-bytes = refl

strided_read-request : heads (wire_of strided_read 0 1) ≡ Head.GetvGo (Some 0) (Some 1) (span 0 2 ∷ span 4 2 ∷ []) (span 16 2 ∷ span 19 2 ∷ []) ∷ []
unfolding run heads
strided_read-request = refl

strided_read-answer : wire_of strided_read 1 0 ≡ Ack 1 1 0 1 0 ∷ Data (record { layout = 1; from = 1; to = 0; seq = 0; name = message 0 0 Back; head = Head.GetvBack (Some 1) (span 16 2 ∷ span 19 2 ∷ []); length = 4; fragment = 0; payload = 1 ∷ 2 ∷ 5 ∷ 6 ∷ [] }) ∷ []
unfolding run
strided_read-answer = refl

strided_read-origin-before : counters_of (first_lines 5 strided_read) 0 ≡ zeros 4
unfolding run
strided_read-origin-before = refl

strided_read-target-before : counters_of (first_lines 5 strided_read) 1 ≡ 1 ∷ zeros 3
unfolding run
strided_read-target-before = refl

strided_read-origin : counters_of strided_read 0 ≡ 0 ∷ 1 ∷ zeros 2
unfolding run
strided_read-origin = refl

strided_read-target : counters_of strided_read 1 ≡ 1 ∷ zeros 3
unfolding run
strided_read-target = refl

-- The same counters of a read of one piece, and the origin's counter of a read-modify-write.
abbrev two_counters : Row
two_counters =
    two_tasks 64
    (Get 1 (Plain 0) 16 4 (Some 0) (Some 1) ∷ Rmw 1 Add (Plain 0) 1 0 8 (Some 2) ∷ [])
    []
    (Step 0 ∷ Step 0 ∷ Poll 0 ∷ Deliver 0 1 0 ∷ Deliver 0 1 1 ∷ Poll 1 ∷ Deliver 1 0 2 ∷ Deliver 1 0 3 ∷ [])

two_counters-origin-before : counters_of (first_lines 6 two_counters) 0 ≡ zeros 4
unfolding run
two_counters-origin-before = refl

two_counters-target : counters_of (first_lines 6 two_counters) 1 ≡ 1 ∷ zeros 3
unfolding run
two_counters-target = refl

two_counters-origin : counters_of two_counters 0 ≡ 0 ∷ 1 ∷ 1 ∷ zeros 1
unfolding run
two_counters-origin = refl

two_counters-answers : drop 2 (wire_of two_counters 1 0) ≡ Data (record { layout = 1; from = 1; to = 0; seq = 0; name = message 0 0 Back; head = Head.GetBack 16 (Some 1); length = 4; fragment = 0; payload = zeros 4 }) ∷ Data (record { layout = 1; from = 1; to = 0; seq = 1; name = message 0 1 Back; head = Head.RmwBack 8 (Some 2); length = 4; fragment = 0; payload = zeros 4 }) ∷ []
unfolding run
two_counters-answers = refl

-- Rounds.

-- A refused address is no round, fences over all tasks have rounds of their own, and an address of a table is the target's.
abbrev rounds : Row
rounds =
    two_tasks 64
    (Gfence ∷ Statement.Addr 60 ∷ Put 1 (Table 0 4) 0 4 None None None ∷ Put 1 (Table 0 37) 0 4 None None None ∷ Gfence ∷ [])
    (Gfence ∷ Statement.Addr 65 ∷ Statement.Addr 24 ∷ Gfence ∷ [])
    (Step 0 ∷ Step 1 ∷ Poll 0 ∷ Poll 1 ∷ Deliver 0 1 0 ∷ Deliver 1 0 0 ∷ Step 0 ∷ Step 1
    ∷ Step 1 ∷ Step 1 ∷ Step 0 ∷ Poll 0 ∷ Poll 1 ∷ Deliver 0 1 2 ∷ Deliver 1 0 2 ∷ Step 0
    ∷ Step 0 ∷ Step 0 ∷ Step 0 ∷ Poll 0 ∷ Deliver 0 1 4 ∷ Deliver 1 0 4 ∷ Step 0 ∷ Poll 0
    ∷ Step 1 ∷ Step 1 ∷ Poll 1 ∷ Step 0 ∷ Deliver 1 0 5 ∷ Step 0 ∷ [])

rounds-journal : journal_of rounds ≡ Enter 0 0 ∷ Enter 1 0 ∷ Copy (message 0 0 (Join 1)) ∷ Copy (message 1 0 (Join 0)) ∷ Land (message 0 0 (Join 1)) ∷ Land (message 1 0 (Join 0)) ∷ Pass 0 0 ∷ Pass 1 0 ∷ Refuse 1 1 BadOriginRange ∷ Enter 1 2 ∷ Enter 0 1 ∷ Copy (message 0 1 (Join 1)) ∷ Copy (message 1 2 (Join 0)) ∷ Land (message 0 1 (Join 1)) ∷ Land (message 1 2 (Join 0)) ∷ Pass 0 1 ∷ Issue 0 2 ∷ Refuse 0 3 BadTargetRange ∷ Copy (message 0 2 Go) ∷ Land (message 0 2 Go) ∷ Enter 0 4 ∷ Copy (message 0 4 (Join 1)) ∷ Pass 1 2 ∷ Enter 1 3 ∷ Copy (message 1 3 (Join 0)) ∷ Land (message 1 3 (Join 0)) ∷ Pass 0 4 ∷ []
unfolding run
rounds-journal = refl

rounds-first : heads (wire_of rounds 0 1) ≡ Head.Gfence 0 ∷ Head.Addr 0 60 ∷ Head.Put 28 None None ∷ Head.Gfence 1 ∷ []
unfolding run heads
rounds-first = refl

rounds-second : heads (wire_of rounds 1 0) ≡ Head.Gfence 0 ∷ Head.Addr 0 24 ∷ Head.Gfence 1 ∷ []
unfolding run heads
rounds-second = refl

-- The atomic machine lets a fence over all tasks pass where each task has entered it and all earlier data have landed.
abbrev fence_over_all : Row
fence_over_all = two_tasks 64 (Put 1 (Plain 0) 0 4 None None None ∷ Gfence ∷ []) (Gfence ∷ []) []

fence_over_all-entered : passes fence_over_all.script builtin (Enter 0 1 ∷ Land (message 0 0 Go) ∷ Issue 0 0 ∷ []) (Pass 0 1) ≡ false
unfolding run landed_before all_cleared
fence_over_all-entered = refl

fence_over_all-landed : passes fence_over_all.script builtin (Enter 1 0 ∷ Enter 0 1 ∷ Issue 0 0 ∷ []) (Pass 1 0) ≡ false
unfolding run landed_before all_cleared
fence_over_all-landed = refl

fence_over_all-passed : passes fence_over_all.script builtin (Enter 1 0 ∷ Enter 0 1 ∷ Land (message 0 0 Go) ∷ Issue 0 0 ∷ []) (Pass 1 0) ≡ true
unfolding run landed_before all_cleared
fence_over_all-passed = refl

-- Handlers.

-- the user header with these three words, each below 256
abbrev pub header : (place user choice : ℕ) → List ℕ
header place user choice = 0 ∷ 0 ∷ 0 ∷ place ∷ 0 ∷ 0 ∷ 0 ∷ user ∷ 0 ∷ 0 ∷ 0 ∷ choice ∷ []

-- Two jobs begin in the order of their landings, at two workers, each of which ends its own.
abbrev two_jobs : Row
two_jobs =
    with_workers 2 (two_tasks 64
    (Am 1 1 (header 0 32 0) 0 0 None None None ∷ Am 1 1 (header 0 32 0) 0 0 None None None ∷ [])
    []
    (Step 0 ∷ Step 0 ∷ Poll 0 ∷ Deliver 0 1 1 ∷ Deliver 0 1 0 ∷ Act.Begin 1 0 ∷ Act.Begin 1 0 ∷ Act.Begin 1 1 ∷ Act.End 1 1 ∷ Act.End 1 1 ∷ Act.Begin 1 0 ∷ Act.End 1 0 ∷ Act.Begin 1 0 ∷ []))

two_jobs-journal : journal_of two_jobs ≡ Issue 0 0 ∷ Issue 0 1 ∷ Copy (message 0 0 Go) ∷ Copy (message 0 1 Go) ∷ Event.Head (message 0 1 Go) ∷ Land (message 0 1 Go) ∷ Event.Head (message 0 0 Go) ∷ Land (message 0 0 Go) ∷ Event.Begin (message 0 1 Go) 1 0 ∷ Event.Begin (message 0 0 Go) 1 1 ∷ Event.End (message 0 0 Go) 1 1 ∷ Event.End (message 0 1 Go) 1 0 ∷ []
unfolding run
two_jobs-journal = refl

two_jobs-replies : replies_of two_jobs ≡ Did ∷ Did ∷ Did ∷ Did ∷ Did ∷ Did ∷ Busy ∷ Did ∷ Did ∷ Idle ∷ Busy ∷ Did ∷ Idle ∷ []
unfolding run
two_jobs-replies = refl

-- The atomic machine begins the job that landed first, at a worker that runs none, and ends it there.
two_jobs-second : job_turn two_jobs.script builtin (Land (message 0 0 Go) ∷ Land (message 0 1 Go) ∷ []) (Event.Begin (message 0 0 Go) 1 0) ≡ false
unfolding run
two_jobs-second = refl

two_jobs-busy : job_turn two_jobs.script builtin (Event.Begin (message 0 1 Go) 1 0 ∷ Land (message 0 0 Go) ∷ Land (message 0 1 Go) ∷ []) (Event.Begin (message 0 0 Go) 1 0) ≡ false
unfolding run
two_jobs-busy = refl

two_jobs-elsewhere : job_turn two_jobs.script builtin (Event.Begin (message 0 1 Go) 1 0 ∷ Land (message 0 1 Go) ∷ []) (Event.End (message 0 1 Go) 1 1) ≡ false
unfolding run
two_jobs-elsewhere = refl

-- All events of an active message with a completion and a completion counter.
chain_of_a_message : chain (two_tasks 64 (Am 1 1 (header 0 32 0) 0 0 None None (Some 0) ∷ []) [] []).script builtin 0 0 ≡ Begun (message 0 0 Go) ∷ Ended (message 0 0 Go) ∷ Landed (message 0 0 Go) ∷ Issued 0 0 ∷ Copied (message 0 0 Go) ∷ Headed (message 0 0 Go) ∷ Copied (message 0 0 Note) ∷ Landed (message 0 0 Note) ∷ []
unfolding run
chain_of_a_message = refl

-- What stands before the events of that message and of its notice.
abbrev one_message : Script
one_message = (two_tasks 64 (Am 1 1 (header 0 32 0) 0 0 None None (Some 0) ∷ Get 1 (Plain 0) 0 4 None None ∷ Gfence ∷ []) [] []).script

to_a_head : needs one_message builtin (Headed (message 0 0 Go)) ≡ Issued 0 0 ∷ Copied (message 0 0 Go) ∷ []
unfolding run needs
to_a_head = refl

to_a_landing : needs one_message builtin (Landed (message 0 0 Go)) ≡ Issued 0 0 ∷ Copied (message 0 0 Go) ∷ Headed (message 0 0 Go) ∷ []
unfolding run needs
to_a_landing = refl

to_a_begin : needs one_message builtin (Begun (message 0 0 Go)) ≡ Landed (message 0 0 Go) ∷ Issued 0 0 ∷ Copied (message 0 0 Go) ∷ Headed (message 0 0 Go) ∷ []
unfolding run needs
to_a_begin = refl

to_an_end : needs one_message builtin (Ended (message 0 0 Go)) ≡ Begun (message 0 0 Go) ∷ Landed (message 0 0 Go) ∷ Issued 0 0 ∷ Copied (message 0 0 Go) ∷ Headed (message 0 0 Go) ∷ []
unfolding run needs
to_an_end = refl

to_a_notice : needs one_message builtin (Copied (message 0 0 Note)) ≡ Begun (message 0 0 Go) ∷ Ended (message 0 0 Go) ∷ Landed (message 0 0 Go) ∷ Issued 0 0 ∷ Copied (message 0 0 Go) ∷ Headed (message 0 0 Go) ∷ []
unfolding run needs
to_a_notice = refl

to_an_answer : needs one_message builtin (Landed (message 0 1 Back)) ≡ Copied (message 0 1 Back) ∷ Landed (message 0 1 Go) ∷ Issued 0 1 ∷ Copied (message 0 1 Go) ∷ []
unfolding run needs
to_an_answer = refl

to_a_join : needs one_message builtin (Landed (message 0 2 (Join 1))) ≡ Copied (message 0 2 (Join 1)) ∷ Entered 0 2 ∷ []
unfolding run needs
to_a_join = refl

-- What the atomic machine doesn't take: an event that isn't there, one twice, one before what it needs, a job or a wait before its time, and a statement out of turn.
abbrev one_put : Script
one_put = (two_tasks 64 (Put 1 (Plain 0) 0 4 None None None ∷ Put 2 (Plain 0) 0 4 None None None ∷ Gfence ∷ []) [] []).script

not_there : Keeps one_put builtin [] (Pass 0 0) → ⊥
unfolding run
not_there k = false≢true k.there

not_twice : Keeps one_put builtin (Issue 0 0 ∷ []) (Issue 0 0) → ⊥
unfolding run
not_twice k = false≢true (sym k.once)

not_uncopied : Keeps one_put builtin (Issue 0 0 ∷ []) (Land (message 0 0 Go)) → ⊥
unfolding run needs
not_uncopied k = false≢true k.after

not_second : Keeps two_jobs.script builtin (Land (message 0 0 Go) ∷ Land (message 0 1 Go) ∷ []) (Event.Begin (message 0 0 Go) 1 0) → ⊥
unfolding run
not_second k = false≢true k.jobs

not_one_short : Keeps wait_one_short.script builtin (Issue 0 0 ∷ []) (Pass 0 1) → ⊥
unfolding run
not_one_short k = false≢true k.waits

not_ahead : Keeps one_put builtin [] (Issue 0 1) → ⊥
unfolding run
not_ahead k = false≢true (ap (λ n. n == 0) k.order.0)

not_without_reason : Keeps one_put builtin [] (Refuse 0 0 BadTask) → ⊥
unfolding run
not_without_reason k = false≢true (ap is_some k.order.1)

not_with_reason : Keeps one_put builtin (Issue 0 0 ∷ []) (Issue 0 1) → ⊥
unfolding run
not_with_reason k = false≢true (ap (λ o. not (is_some o)) k.order.1)

not_unentered : Keeps one_put builtin (Refuse 0 1 BadTask ∷ Issue 0 0 ∷ []) (Pass 0 2) → ⊥
unfolding run
not_unentered k = false≢true k.order.1

-- Which events there are: none of a put's answer, of a notice without a counter, of a join to its own task, nor of a job elsewhere.
which_are_there : map (is_there one_put builtin) (Issue 0 0 ∷ Pass 0 0 ∷ Enter 0 2 ∷ Pass 0 2 ∷ Issue 0 2 ∷ Issue 0 3 ∷ Copy (message 0 0 Back) ∷ Copy (message 0 0 Note) ∷ Event.Head (message 0 0 Go) ∷ Copy (message 0 2 (Join 1)) ∷ Copy (message 0 2 (Join 0)) ∷ Copy (message 0 2 (Join 2)) ∷ []) ≡ true ∷ false ∷ true ∷ true ∷ false ∷ false ∷ false ∷ false ∷ false ∷ true ∷ false ∷ false ∷ []
unfolding run
which_are_there = refl

which_jobs_are_there : map (is_there one_message builtin) (Event.Begin (message 0 0 Go) 1 0 ∷ Event.Begin (message 0 0 Go) 1 1 ∷ Event.Begin (message 0 0 Go) 0 0 ∷ Event.Begin (message 0 0 Note) 1 0 ∷ Event.End (message 0 1 Go) 1 0 ∷ Event.Head (message 0 0 Go) ∷ Event.Head (message 0 0 Note) ∷ Copy (message 0 0 Note) ∷ Copy (message 0 1 Back) ∷ []) ≡ true ∷ false ∷ false ∷ false ∷ false ∷ true ∷ false ∷ true ∷ true ∷ []
unfolding run
which_jobs_are_there = refl

-- Buffers and effects up to the memory's end, past which they write nothing.
abbrev effects : Row
effects =
    two_tasks 64
    (Store 0 (1 ∷ 2 ∷ 3 ∷ [])
    ∷ Am 1 1 (header 61 32 2) 0 3 None None None
    ∷ Am 1 1 (header 16 36 3) 0 3 None None None
    ∷ Am 1 1 (header 62 48 2) 0 3 None None None
    ∷ Am 1 3 (header 0 40 0) 0 3 None None None
    ∷ Am 1 1 (header 16 60 1) 0 3 None None None
    ∷ Am 1 1 (header 16 61 1) 0 3 None None None
    ∷ [])
    (Store 40 (9 ∷ 9 ∷ 9 ∷ 9 ∷ 9 ∷ []) ∷ [])
    (replicate 7 (Step 0) ++ Step 1 ∷ Poll 0
    ∷ Deliver 0 1 0 ∷ Act.Begin 1 0 ∷ Act.End 1 0 ∷ Deliver 0 1 1 ∷ Act.Begin 1 0 ∷ Act.End 1 0
    ∷ Deliver 0 1 2 ∷ Act.Begin 1 0 ∷ Act.End 1 0 ∷ Deliver 0 1 3 ∷ Act.Begin 1 0 ∷ Act.End 1 0
    ∷ Deliver 0 1 4 ∷ Act.Begin 1 0 ∷ Act.End 1 0 ∷ Deliver 0 1 5 ∷ Act.Begin 1 0 ∷ Act.End 1 0
    ∷ [])

effects-first : bytes_of effects 1 0x20 ≡ 1 ∷ 2 ∷ 3 ∷ 0 ∷ 3 ∷ 2 ∷ 1 ∷ 0 ∷ 0 ∷ 0 ∷ 0 ∷ 0 ∷ 9 ∷ zeros 3
unfolding run
effects-first = refl

effects-end : bytes_of effects 1 0x30 ≡ zeros 15 ++ 6 ∷ []
unfolding run
effects-end = refl

-- A buffer of no bytes at the memory's end is kept.
buffer_at_the_end : buffer (two_tasks 64 (Am 1 0 (header 64 0 0) 0 0 None None None ∷ []) [] []).script builtin (message 0 0 Go) ≡ span 64 0 ∷ []
unfolding run
buffer_at_the_end = refl

-- An absent word gives no place, no completion and the user value 0; a completion that isn't there is none.
abbrev short_headers : Script
short_headers = (two_tasks 64 (Am 1 0 [] 0 0 None None None ∷ Am 1 1 (zeros 8) 0 0 None None None ∷ Am 1 1 (header 0 0 5) 0 0 None None None ∷ Am 1 1 (header 0 0 3) 0 0 None None None ∷ Am 1 2 (zeros 4) 0 0 None None None ∷ []) [] []).script

short_headers-place : buffer short_headers builtin (message 0 0 Go) ≡ []
unfolding run
short_headers-place = refl

short_headers-completions : map (has_completion short_headers builtin 0) (numbers_below 5) ≡ false ∷ false ∷ false ∷ true ∷ true ∷ []
unfolding run
short_headers-completions = refl

short_headers-user : user short_headers (message 0 4 Go) ≡ 0
unfolding run
short_headers-user = refl

-- The place of a handler by the origin.
abbrev place_by_origin : Row
place_by_origin =
    record {
      script = record { layout = 1; tasks = 3; memory = 1024; counters = 4; workers = 1; lists = [] ∷ [] ∷ (Store 0 (5 ∷ 6 ∷ []) ∷ Am 0 2 (0 ∷ 0 ∷ 0 ∷ 0 ∷ 0 ∷ 0 ∷ 3 ∷ 0 ∷ []) 0 2 None None None ∷ []) ∷ [] };
      lines = Step 2 ∷ Step 2 ∷ Poll 2 ∷ Deliver 2 0 0 ∷ Act.Begin 0 0 ∷ Act.End 0 0 ∷ [];
    }

place_by_origin-buffer : bytes_of place_by_origin 0 0x200 ≡ 5 ∷ 6 ∷ zeros 14
unfolding run
place_by_origin-buffer = refl

place_by_origin-effect : bytes_of place_by_origin 0 0x300 ≡ 6 ∷ 5 ∷ zeros 14
unfolding run
place_by_origin-effect = refl

-- Refusals.

abbrev piece_of_a_table : Piece
piece_of_a_table = record { at = Table 0 0; len = 4 }

-- Of two faults that a statement can have, the first in the order is the reason.
abbrev two_faults : Row
two_faults = record {
  script = record {
    layout = 1;
    tasks = 2;
    memory = 65536;
    counters = 2;
    workers = 1;
    lists =
        (Put 2 (Plain 65533) 0 4 None None None
        ∷ Put 1 (Plain 65533) 65533 4 None None None
        ∷ Put 1 (Plain 0) 65533 4 (Some 2) None None
        ∷ Put 1 (Plain 0) 0 16385 (Some 2) None None
        ∷ Put 1 (Table 0 0) 0 16385 None None None
        ∷ Put 1 (Table 0 65533) 65533 4 None None None
        ∷ Putv 1 (Vector.List (piece_of_a_table ∷ [])) (Vector.List (piece 0 4 ∷ piece 4 4 ∷ [])) None None None
        ∷ Rmw 1 Add (Table 0 0) 1 0 2 None
        ∷ Am 1 4 (0 ∷ 0 ∷ 0 ∷ []) 0 16385 None None None
        ∷ Am 1 4 (0 ∷ 0 ∷ 0 ∷ []) 0 4 None None None
        ∷ Putv 1 (Vector.List (piece 0 4 ∷ [])) (Vector.List (piece 0 8 ∷ piece 8 4 ∷ [])) None None None
        ∷ Putv 1 (Stride (Plain 0) 8 4 2) (Vector.List (piece 0 4 ∷ piece 4 4 ∷ [])) None None None
        ∷ [])
        ∷ []
        ∷ [];
  };
  lines = replicate 12 (Step 0);
}

two_faults-journal : journal_of two_faults ≡ Refuse 0 0 BadTask ∷ Refuse 0 1 BadTargetRange ∷ Refuse 0 2 BadOriginRange ∷ Refuse 0 3 BadCounter ∷ Refuse 0 4 TooLong ∷ Refuse 0 5 BadOriginRange ∷ Refuse 0 6 NoTable ∷ Refuse 0 7 NoTable ∷ Refuse 0 8 TooLong ∷ Refuse 0 9 BadHandler ∷ Refuse 0 10 VecCount ∷ Refuse 0 11 VecLength ∷ []
unfolding run
two_faults-journal = refl

-- Statements just within each bound, and just past it where no other row is.
abbrev bounds : Row
bounds = record {
  script = record {
    layout = 1;
    tasks = 2;
    memory = 65536;
    counters = 2;
    workers = 1;
    lists =
        (Put 1 (Plain 49152) 49152 16384 (Some 1) (Some 1) (Some 1)
        ∷ Am 1 3 (zeros 64) 49152 16384 None None None
        ∷ Am 1 3 (zeros 68) 0 4 None None None
        ∷ Rmw 1 Add (Plain 65532) 1 0 65532 None
        ∷ Rmw 1 Add (Plain 0) 1 0 65533 None
        ∷ Rmw 1 Add (Plain 0) 1 0 6 None
        ∷ Putv 1 (Stride (Plain 0) 8192 8192 2) (Stride (Plain 0) 8192 8192 2) None None None
        ∷ Putv 1 (Stride (Plain 0) 8193 8193 2) (Stride (Plain 0) 8193 8193 2) None None None
        ∷ Getv 1 (Stride (Plain 0) 8 8 2) (Stride (Plain 0) 8 4 2) None None
        ∷ Put 1 (Plain 0) 0 4 None (Some 2) None
        ∷ Put 1 (Plain 0) 0 4 None None (Some 2)
        ∷ Store 65533 (1 ∷ 2 ∷ 3 ∷ 4 ∷ [])
        ∷ Store 65532 (1 ∷ 2 ∷ 3 ∷ 4 ∷ [])
        ∷ Set 2 0
        ∷ Read 2
        ∷ Statement.Addr 65537
        ∷ Get 0 (Plain 0) 0 16385 None None
        ∷ Statement.Addr 65536
        ∷ [])
        ∷ []
        ∷ [];
  };
  lines = replicate 18 (Step 0);
}

bounds-journal : journal_of bounds ≡ Issue 0 0 ∷ Issue 0 1 ∷ Refuse 0 2 BadUserHeader ∷ Issue 0 3 ∷ Refuse 0 4 BadOriginRange ∷ Refuse 0 5 Misaligned ∷ Issue 0 6 ∷ Refuse 0 7 TooLong ∷ Refuse 0 8 StrideBelowBlock ∷ Refuse 0 9 BadCounter ∷ Refuse 0 10 BadCounter ∷ Refuse 0 11 BadOriginRange ∷ Issue 0 12 ∷ Refuse 0 13 BadCounter ∷ Refuse 0 14 BadCounter ∷ Refuse 0 15 BadOriginRange ∷ Refuse 0 16 TooLong ∷ Enter 0 17 ∷ []
unfolding run
bounds-journal = refl

-- Quiet.

-- A run is quiet when a put is acknowledged, and neither while it waits for a poll nor before.
smallest_run-issued : quiet_after 2 smallest_run ≡ false
unfolding run is_quiet is_settled is_idle
smallest_run-issued = refl

smallest_run-landed : quiet_after 4 smallest_run ≡ false
unfolding run is_quiet is_settled is_idle
smallest_run-landed = refl

smallest_run-quiet : quiet_after 5 smallest_run ≡ true
unfolding run is_quiet is_settled is_idle
smallest_run-quiet = refl

-- A notice that was copied and not yet sent keeps a run from being quiet.
no_bytes_three_counters-unsent : quiet_after 4 no_bytes_three_counters ≡ false
unfolding run is_quiet is_settled is_idle
no_bytes_three_counters-unsent = refl

no_bytes_three_counters-quiet : quiet_after 7 no_bytes_three_counters ≡ true
unfolding run is_quiet is_settled is_idle
no_bytes_three_counters-quiet = refl

-- So does a job that waits, and one that runs.
abbrev one_job : Row
one_job =
    with_workers 2 (two_tasks 64
    (Am 1 1 (header 0 32 0) 0 0 None None None ∷ [])
    []
    (Step 0 ∷ Poll 0 ∷ Deliver 0 1 0 ∷ Deliver 1 0 0 ∷ Act.Begin 1 1 ∷ Act.End 1 1 ∷ []))

one_job-waits : quiet_after 4 one_job ≡ false
unfolding run is_quiet is_settled is_idle
one_job-waits = refl

one_job-runs : quiet_after 5 one_job ≡ false
unfolding run is_quiet is_settled is_idle
one_job-runs = refl

one_job-quiet : quiet_after 6 one_job ≡ true
unfolding run is_quiet is_settled is_idle
one_job-quiet = refl
