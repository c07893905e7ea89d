-- Small runs of two tasks, computed by the definitions alone.
use Rattle.std.proofs.Common.{◌≡◌, ℕ, ◌+◌, List, [], ◌∷◌, ◌++◌, length, map, take, reverse, replicate, refl, Some, None}
use Rattle.lapi_base.specs.declared.address.Addr.TheVariants.{Plain, Table}
use Rattle.lapi_base.specs.declared.piece.Piece.{Piece}
use Rattle.lapi_base.specs.declared.vector.Vector.{Vector}
use Rattle.lapi_base.specs.declared.vector.Vector.TheVariants.{Stride}
use Rattle.lapi_base.specs.declared.statement.RmwOp.TheVariants.{Add, Or, Swap, Cas}
use Rattle.lapi_base.specs.declared.statement.Statement.{Statement}
use Rattle.lapi_base.specs.declared.statement.Statement.TheVariants.{Store, Put, Get, Putv, Rmw, Am, Wait, Set, Read, Fence}
use Rattle.lapi_base.specs.declared.script.Script.{Script}
use Rattle.lapi_base.specs.declared.rule.Rules.{Rules}
use Rattle.lapi_base.specs.declared.rule.Place.{Place}
use Rattle.lapi_base.specs.declared.rule.Place.TheVariants.{PerOrigin, Nowhere}
use Rattle.lapi_base.specs.declared.rule.Choice.{Choice}
use Rattle.lapi_base.specs.declared.rule.Choice.TheVariants.{Never, Always}
use Rattle.lapi_base.specs.declared.rule.CompletionRule.TheVariants.{Nothing, Sum, Same, Reversed, Answer}
use Rattle.lapi_base.specs.declared.message.Leg.TheVariants.{Go, Back, Note, Join}
use Rattle.lapi_base.specs.declared.refusal.Refusal.TheVariants.{BadTask, BadTargetRange, BadOriginRange, BadCounter, TooLong, NoTable, BadHandler, BadUserHeader, VecCount, VecLength, StrideBelowBlock, Misaligned}
use Rattle.lapi_base.specs.declared.event.Event.{Event}
use Rattle.lapi_base.specs.declared.event.Event.TheVariants.{Issue, Refuse, Enter, Pass, Copy, Land}
use Rattle.lapi_base.specs.declared.schedule.Act.{Act}
use Rattle.lapi_base.specs.declared.schedule.Act.TheVariants.{Step, Poll, Deliver}
use Rattle.lapi_base.specs.declared.reply.Reason.TheVariants.{Short}
use Rattle.lapi_base.specs.declared.reply.Reply.{Reply}
use Rattle.lapi_base.specs.declared.reply.Reply.TheVariants.{Did, Blocked}
use Rattle.lapi_base.specs.declared.head.Head.{Head}
use Rattle.lapi_base.specs.declared.head.NoteOp.{NoteOp}
use Rattle.lapi_base.specs.declared.packet.Packet.{Packet}
use Rattle.lapi_base.specs.declared.packet.Packet.TheVariants.{Data, Ack}
use Rattle.lapi_base.specs.Packet.Layout.{unit_of, window_of, longest_of, longest_active_of, holds_back, may_answer}
use Rattle.lapi_base.specs.Record.Below.{every_below, below, least_missing, has_bit, bits_of}
use Rattle.lapi_base.specs.Record.Names.{message, name_eq, happened}
use Rattle.lapi_base.specs.Record.Operations.{numbers_below, statement, table_rounds, entry, address, pieces_of, message_length, fragment_count, fragments}
use Rattle.lapi_base.specs.Record.Handlers.{number_of, word_bytes, header_word, buffer, completion, user, has_completion, rule_named, answers, answer_of, effect_of}
use Rattle.lapi_base.specs.Record.Values.{gathered, scattered, byte_after, rmw_word, values}
use Rattle.lapi_base.specs.Record.Counters.{tells, count, reads}
use Rattle.lapi_base.specs.Record.Refusals.{next, gfence_rounds, round_of, partner, joined, first_reason, refusal_by, refusal_of}
use Rattle.lapi_base.specs.Record.Jobs.{is_job, landed_jobs, queue, runs}
use Rattle.lapi_base.specs.Record.Packets.{data_packet}
use Rattle.lapi_base.specs.Record.Wires.{Run, numbered, has_number, has_ack, base, all_numbers, some_number, data_done, data_clear, packets, to_send, to_resend, ack, owed_ack}
use Rattle.lapi_base.specs.Record.Acts.{ready, copy_each, followed, poll, tick, first_delivery, at_once, hand_over, deliver, step, begin, end, perform, after, run_of}

-- the built-in handlers
abbrev pub builtin : Rules
builtin = record {
  headers = record { place = Place.Word; choice = Never } ∷ record { place = Place.Word; choice = Choice.Word } ∷ record { place = PerOrigin 0 256; choice = Always 3 } ∷ record { place = Nowhere; choice = Always 1 } ∷ [];
  completions = Nothing ∷ Sum ∷ Same ∷ Reversed ∷ Answer ∷ [];
}

-- a script and the lines of a run of it
pub record Row : Type 0 where
  pub script : Script
  pub lines : List Act

-- two tasks with memories of this size and these statements, and the lines of a run
abbrev pub two_tasks : (memory : ℕ) → List Statement → List Statement → List Act → Row
two_tasks memory xs ys lines = record { script = record { layout = 1; tasks = 2; memory = memory; counters = 4; workers = 1; lists = xs ∷ ys ∷ [] }; lines = lines }

-- The run of a row. No line cuts a packet or injects bytes, so it doesn't matter what is passed for those.
-- A proof with the line `unfolding run` computes with all definitions.
unfoldable pub run : Row → Run
unfolding unit_of window_of longest_of longest_active_of every_below below least_missing has_bit bits_of name_eq happened numbers_below statement table_rounds entry address pieces_of message_length fragment_count fragments number_of word_bytes header_word buffer completion user has_completion may_answer rule_named answers answer_of effect_of gathered scattered byte_after rmw_word values tells count next gfence_rounds round_of partner joined first_reason refusal_by refusal_of is_job landed_jobs queue runs data_packet numbered has_number has_ack base all_numbers some_number data_done data_clear ready copy_each followed packets to_send poll to_resend tick first_delivery ack owed_ack at_once holds_back hand_over deliver step begin end perform after run_of reads
run row = run_of row.script builtin (λ p. 0) (λ bytes. record { place = 0; reason = Short }) row.lines

-- the events in the order of time
abbrev pub journal_of : Row → List Event
journal_of row = reverse (run row).journal

abbrev pub replies_of : Row → List Reply
replies_of row = (run row).replies

abbrev pub wire_of : Row → (from to : ℕ) → List Packet
wire_of row a b = (run row).wire a b

-- the 16 bytes of a task's memory from x on
abbrev pub bytes_of : Row → (task x : ℕ) → List ℕ
bytes_of row t x = let v = values row.script builtin (run row).journal in map (λ k. v.memory t (x + k)) (numbers_below 16)

-- all counters of a task
abbrev pub counters_of : Row → (task : ℕ) → List ℕ
counters_of row t = map (λ c. count row.script builtin (run row).journal t c) (numbers_below row.script.counters)

-- the number and the answer of each Read of a task
abbrev reads_of : Row → (task : ℕ) → List (ℕ × ℕ)
reads_of row t = reads row.script builtin (run row).journal t

abbrev pub piece : (at len : ℕ) → Piece
piece at len = record { at = Plain at; len = len }

abbrev pub zeros : ℕ → List ℕ
zeros n = replicate n 0

-- A task stores eight bytes and puts them; the put lands and is acknowledged.
abbrev pub smallest_run : Row
smallest_run =
    two_tasks 64
    (Store 0 (0x61 ∷ 0x62 ∷ 0x63 ∷ 0x64 ∷ 0x65 ∷ 0x66 ∷ 0x67 ∷ 0x68 ∷ []) ∷ Put 1 (Plain 16) 0 8 None None None ∷ [])
    []
    (Step 0 ∷ Step 0 ∷ Poll 0 ∷ Deliver 0 1 0 ∷ Deliver 1 0 0 ∷ [])

smallest_run-journal : journal_of smallest_run ≡ Issue 0 0 ∷ Issue 0 1 ∷ Copy (message 0 1 Go) ∷ Land (message 0 1 Go) ∷ []
unfolding run
smallest_run-journal = refl

smallest_run-origin : bytes_of smallest_run 0 0x00 ≡ 0x61 ∷ 0x62 ∷ 0x63 ∷ 0x64 ∷ 0x65 ∷ 0x66 ∷ 0x67 ∷ 0x68 ∷ zeros 8
unfolding run
smallest_run-origin = refl

smallest_run-target : bytes_of smallest_run 1 0x10 ≡ 0x61 ∷ 0x62 ∷ 0x63 ∷ 0x64 ∷ 0x65 ∷ 0x66 ∷ 0x67 ∷ 0x68 ∷ zeros 8
unfolding run
smallest_run-target = refl

smallest_run-data : wire_of smallest_run 0 1 ≡ Data (record { layout = 1; from = 0; to = 1; seq = 0; name = message 0 1 Go; head = Head.Put 16 None None; length = 8; fragment = 0; payload = 0x61 ∷ 0x62 ∷ 0x63 ∷ 0x64 ∷ 0x65 ∷ 0x66 ∷ 0x67 ∷ 0x68 ∷ [] }) ∷ []
unfolding run
smallest_run-data = refl

smallest_run-acks : wire_of smallest_run 1 0 ≡ Ack 1 1 0 1 0 ∷ []
unfolding run
smallest_run-acks = refl

-- A put of no bytes to the end of the memory, which tells three counters, one of them by a notice.
abbrev pub no_bytes_three_counters : Row
no_bytes_three_counters =
    two_tasks 64
    (Put 1 (Plain 64) 64 0 (Some 0) (Some 0) (Some 0) ∷ [])
    []
    (Step 0 ∷ Poll 0 ∷ Deliver 0 1 0 ∷ Deliver 1 0 0 ∷ Poll 1 ∷ Deliver 1 0 1 ∷ Deliver 0 1 1 ∷ [])

no_bytes_three_counters-journal : journal_of no_bytes_three_counters ≡ Issue 0 0 ∷ Copy (message 0 0 Go) ∷ Land (message 0 0 Go) ∷ Copy (message 0 0 Note) ∷ Land (message 0 0 Note) ∷ []
unfolding run
no_bytes_three_counters-journal = refl

no_bytes_three_counters-origin : counters_of no_bytes_three_counters 0 ≡ 2 ∷ zeros 3
unfolding run
no_bytes_three_counters-origin = refl

no_bytes_three_counters-target : counters_of no_bytes_three_counters 1 ≡ 1 ∷ zeros 3
unfolding run
no_bytes_three_counters-target = refl

no_bytes_three_counters-data : wire_of no_bytes_three_counters 0 1 ≡ Data (record { layout = 1; from = 0; to = 1; seq = 0; name = message 0 0 Go; head = Head.Put 64 (Some 0) (Some 0); length = 0; fragment = 0; payload = [] }) ∷ Ack 1 0 1 1 0 ∷ []
unfolding run
no_bytes_three_counters-data = refl

no_bytes_three_counters-notice : wire_of no_bytes_three_counters 1 0 ≡ Ack 1 1 0 1 0 ∷ Data (record { layout = 1; from = 1; to = 0; seq = 0; name = message 0 0 Note; head = Head.Note NoteOp.Put 0; length = 0; fragment = 0; payload = [] }) ∷ []
unfolding run
no_bytes_three_counters-notice = refl

-- A put of three packets, which arrive in reverse order, one of them twice.
abbrev reverse_order_one_twice : Row
reverse_order_one_twice =
    two_tasks 1024
    (Store 0 (1 ∷ []) ∷ Store 256 (2 ∷ []) ∷ Store 512 (3 ∷ []) ∷ Put 1 (Plain 0) 0 768 None None None ∷ [])
    []
    (Step 0 ∷ Step 0 ∷ Step 0 ∷ Step 0 ∷ Poll 0 ∷ Deliver 0 1 2 ∷ Deliver 0 1 1 ∷ Deliver 0 1 1 ∷ Deliver 0 1 0 ∷ [])

reverse_order_one_twice-journal : journal_of reverse_order_one_twice ≡ Issue 0 0 ∷ Issue 0 1 ∷ Issue 0 2 ∷ Issue 0 3 ∷ Copy (message 0 3 Go) ∷ Land (message 0 3 Go) ∷ []
unfolding run
reverse_order_one_twice-journal = refl

-- Before the last line nothing has landed.
reverse_order_one_twice-before : journal_of (record reverse_order_one_twice { lines = take 8 reverse_order_one_twice.lines }) ≡ Issue 0 0 ∷ Issue 0 1 ∷ Issue 0 2 ∷ Issue 0 3 ∷ Copy (message 0 3 Go) ∷ []
unfolding run
reverse_order_one_twice-before = refl

reverse_order_one_twice-acks : wire_of reverse_order_one_twice 1 0 ≡ Ack 1 1 0 0 4 ∷ Ack 1 1 0 0 6 ∷ Ack 1 1 0 0 6 ∷ Ack 1 1 0 3 0 ∷ []
unfolding run
reverse_order_one_twice-acks = refl

reverse_order_one_twice-origin-first : bytes_of reverse_order_one_twice 0 0x000 ≡ 1 ∷ zeros 15
unfolding run
reverse_order_one_twice-origin-first = refl

reverse_order_one_twice-origin-second : bytes_of reverse_order_one_twice 0 0x100 ≡ 2 ∷ zeros 15
unfolding run
reverse_order_one_twice-origin-second = refl

reverse_order_one_twice-origin-third : bytes_of reverse_order_one_twice 0 0x200 ≡ 3 ∷ zeros 15
unfolding run
reverse_order_one_twice-origin-third = refl

reverse_order_one_twice-target-first : bytes_of reverse_order_one_twice 1 0x000 ≡ 1 ∷ zeros 15
unfolding run
reverse_order_one_twice-target-first = refl

reverse_order_one_twice-target-second : bytes_of reverse_order_one_twice 1 0x100 ≡ 2 ∷ zeros 15
unfolding run
reverse_order_one_twice-target-second = refl

reverse_order_one_twice-target-third : bytes_of reverse_order_one_twice 1 0x200 ≡ 3 ∷ zeros 15
unfolding run
reverse_order_one_twice-target-third = refl

-- A put lands over the buffer of a completion handler that runs; the handler sums the bytes that it was given.
abbrev put_over_a_running_handler : Row
put_over_a_running_handler =
    two_tasks 64
    (Store 0 (1 ∷ 2 ∷ 3 ∷ 4 ∷ []) ∷ Am 1 1 (0 ∷ 0 ∷ 0 ∷ 0x10 ∷ 0 ∷ 0 ∷ 0 ∷ 0x20 ∷ 0 ∷ 0 ∷ 0 ∷ 1 ∷ []) 0 4 (Some 0) None (Some 0) ∷ Put 1 (Plain 16) 4 4 None None None ∷ [])
    []
    (Step 0 ∷ Step 0 ∷ Step 0 ∷ Poll 0 ∷ Deliver 0 1 0 ∷ Act.Begin 1 0 ∷ Deliver 0 1 1 ∷ Act.End 1 0 ∷ [])

put_over_a_running_handler-journal : journal_of put_over_a_running_handler ≡ Issue 0 0 ∷ Issue 0 1 ∷ Issue 0 2 ∷ Copy (message 0 1 Go) ∷ Copy (message 0 2 Go) ∷ Event.Head (message 0 1 Go) ∷ Land (message 0 1 Go) ∷ Event.Begin (message 0 1 Go) 1 0 ∷ Land (message 0 2 Go) ∷ Event.End (message 0 1 Go) 1 0 ∷ Copy (message 0 1 Note) ∷ []
unfolding run
put_over_a_running_handler-journal = refl

put_over_a_running_handler-message : take 1 (wire_of put_over_a_running_handler 0 1) ≡ Data (record { layout = 1; from = 0; to = 1; seq = 0; name = message 0 1 Go; head = Head.Am 1 (Some 0) (Some 0) (0 ∷ 0 ∷ 0 ∷ 0x10 ∷ 0 ∷ 0 ∷ 0 ∷ 0x20 ∷ 0 ∷ 0 ∷ 0 ∷ 1 ∷ []); length = 4; fragment = 0; payload = 1 ∷ 2 ∷ 3 ∷ 4 ∷ [] }) ∷ []
unfolding run
put_over_a_running_handler-message = refl

put_over_a_running_handler-origin : bytes_of put_over_a_running_handler 0 0x00 ≡ 1 ∷ 2 ∷ 3 ∷ 4 ∷ zeros 12
unfolding run
put_over_a_running_handler-origin = refl

put_over_a_running_handler-buffer : bytes_of put_over_a_running_handler 1 0x10 ≡ zeros 16
unfolding run
put_over_a_running_handler-buffer = refl

put_over_a_running_handler-sum : bytes_of put_over_a_running_handler 1 0x20 ≡ 0 ∷ 0 ∷ 0 ∷ 10 ∷ zeros 12
unfolding run
put_over_a_running_handler-sum = refl

put_over_a_running_handler-counters-origin : counters_of put_over_a_running_handler 0 ≡ zeros 4
unfolding run
put_over_a_running_handler-counters-origin = refl

put_over_a_running_handler-counters-target : counters_of put_over_a_running_handler 1 ≡ 1 ∷ zeros 3
unfolding run
put_over_a_running_handler-counters-target = refl

-- A fence waits until the bytes of a get have come back.
abbrev fence_after_a_get : Row
fence_after_a_get =
    two_tasks 64
    (Get 1 (Plain 0) 16 4 (Some 0) (Some 0) ∷ Fence ∷ [])
    (Store 0 (0xaa ∷ 0xbb ∷ 0xcc ∷ 0xdd ∷ []) ∷ [])
    (Step 1 ∷ Step 0 ∷ Poll 0 ∷ Deliver 0 1 0 ∷ Deliver 1 0 0 ∷ Step 0 ∷ Poll 1 ∷ Deliver 1 0 1 ∷ Step 0 ∷ [])

fence_after_a_get-journal : journal_of fence_after_a_get ≡ Issue 1 0 ∷ Issue 0 0 ∷ Copy (message 0 0 Go) ∷ Land (message 0 0 Go) ∷ Copy (message 0 0 Back) ∷ Land (message 0 0 Back) ∷ Pass 0 1 ∷ []
unfolding run
fence_after_a_get-journal = refl

fence_after_a_get-replies : replies_of fence_after_a_get ≡ Did ∷ Did ∷ Did ∷ Did ∷ Did ∷ Blocked ∷ Did ∷ Did ∷ Did ∷ []
unfolding run
fence_after_a_get-replies = refl

fence_after_a_get-request : take 1 (wire_of fence_after_a_get 0 1) ≡ Data (record { layout = 1; from = 0; to = 1; seq = 0; name = message 0 0 Go; head = Head.GetGo 4 0 16 (Some 0) (Some 0); length = 0; fragment = 0; payload = [] }) ∷ []
unfolding run
fence_after_a_get-request = refl

fence_after_a_get-answer : wire_of fence_after_a_get 1 0 ≡ Ack 1 1 0 1 0 ∷ Data (record { layout = 1; from = 1; to = 0; seq = 0; name = message 0 0 Back; head = Head.GetBack 16 (Some 0); length = 4; fragment = 0; payload = 0xaa ∷ 0xbb ∷ 0xcc ∷ 0xdd ∷ [] }) ∷ []
unfolding run
fence_after_a_get-answer = refl

fence_after_a_get-bytes : bytes_of fence_after_a_get 0 0x10 ≡ 0xaa ∷ 0xbb ∷ 0xcc ∷ 0xdd ∷ zeros 12
unfolding run
fence_after_a_get-bytes = refl

fence_after_a_get-counters-origin : counters_of fence_after_a_get 0 ≡ 1 ∷ zeros 3
unfolding run
fence_after_a_get-counters-origin = refl

fence_after_a_get-counters-target : counters_of fence_after_a_get 1 ≡ 1 ∷ zeros 3
unfolding run
fence_after_a_get-counters-target = refl

-- The four operations on one word, two of them by the task that has the word.
abbrev four_rmws : Row
four_rmws =
    two_tasks 64
    (Rmw 1 Add (Plain 0) 1 0 8 None ∷ Rmw 1 Or (Plain 0) 6 0 12 None ∷ [])
    (Store 0 (0xff ∷ 0xff ∷ 0xff ∷ 0xff ∷ []) ∷ Rmw 1 Swap (Plain 0) 9 0 16 None ∷ Rmw 1 Cas (Plain 0) 5 7 20 (Some 0) ∷ [])
    (Step 1 ∷ Step 0 ∷ Step 0 ∷ Poll 0 ∷ Deliver 0 1 0 ∷ Deliver 0 1 1 ∷ Step 1 ∷ Step 1 ∷ Poll 1 ∷ Deliver 1 1 0 ∷ Deliver 1 1 1 ∷ Poll 1 ∷ Deliver 1 1 4 ∷ Deliver 1 1 5 ∷ Deliver 1 0 2 ∷ Deliver 1 0 3 ∷ [])

four_rmws-events : length (journal_of four_rmws) ≡ 21
unfolding run
four_rmws-events = refl

four_rmws-request : take 1 (wire_of four_rmws 0 1) ≡ Data (record { layout = 1; from = 0; to = 1; seq = 0; name = message 0 0 Go; head = Head.RmwGo Add 0 1 0 8 None; length = 0; fragment = 0; payload = [] }) ∷ []
unfolding run
four_rmws-request = refl

four_rmws-origin : bytes_of four_rmws 0 0x00 ≡ zeros 8 ++ 0xff ∷ 0xff ∷ 0xff ∷ 0xff ∷ zeros 4
unfolding run
four_rmws-origin = refl

four_rmws-word : bytes_of four_rmws 1 0x00 ≡ 0 ∷ 0 ∷ 0 ∷ 9 ∷ zeros 12
unfolding run
four_rmws-word = refl

four_rmws-old : bytes_of four_rmws 1 0x10 ≡ 0 ∷ 0 ∷ 0 ∷ 6 ∷ 0 ∷ 0 ∷ 0 ∷ 9 ∷ zeros 8
unfolding run
four_rmws-old = refl

four_rmws-counters-first : counters_of four_rmws 0 ≡ zeros 4
unfolding run
four_rmws-counters-first = refl

four_rmws-counters-second : counters_of four_rmws 1 ≡ 1 ∷ zeros 3
unfolding run
four_rmws-counters-second = refl

-- A put to an address of the other task is refused before the round that gives the address, and lands there after it.
abbrev address_table : Row
address_table =
    two_tasks 64
    (Put 1 (Table 0 4) 0 4 None None None ∷ Statement.Addr 8 ∷ Store 0 (10 ∷ 11 ∷ 12 ∷ 13 ∷ []) ∷ Put 1 (Table 0 4) 0 4 None None None ∷ [])
    (Statement.Addr 24 ∷ [])
    (Step 0 ∷ Step 0 ∷ Step 1 ∷ Poll 0 ∷ Poll 1 ∷ Deliver 0 1 0 ∷ Deliver 1 0 0 ∷ Step 0 ∷ Step 0 ∷ Step 0 ∷ Poll 0 ∷ Deliver 0 1 2 ∷ [])

address_table-journal : journal_of address_table ≡ Refuse 0 0 NoTable ∷ Enter 0 1 ∷ Enter 1 0 ∷ Copy (message 0 1 (Join 1)) ∷ Copy (message 1 0 (Join 0)) ∷ Land (message 0 1 (Join 1)) ∷ Land (message 1 0 (Join 0)) ∷ Pass 0 1 ∷ Issue 0 2 ∷ Issue 0 3 ∷ Copy (message 0 3 Go) ∷ Land (message 0 3 Go) ∷ []
unfolding run
address_table-journal = refl

address_table-join : take 1 (wire_of address_table 0 1) ≡ Data (record { layout = 1; from = 0; to = 1; seq = 0; name = message 0 1 (Join 1); head = Head.Addr 0 8; length = 0; fragment = 0; payload = [] }) ∷ []
unfolding run
address_table-join = refl

address_table-origin : bytes_of address_table 0 0x00 ≡ 10 ∷ 11 ∷ 12 ∷ 13 ∷ zeros 12
unfolding run
address_table-origin = refl

address_table-target : bytes_of address_table 1 0x10 ≡ zeros 12 ++ 10 ∷ 11 ∷ 12 ∷ 13 ∷ []
unfolding run
address_table-target = refl

-- A wait takes its value from the counter that a set gave it; one for more than is there blocks.
abbrev waits_and_sets : Row
waits_and_sets =
    two_tasks 64
    (Set 0 5 ∷ Wait 0 0 ∷ Wait 0 3 ∷ Read 0 ∷ Wait 0 9 ∷ [])
    []
    (Step 0 ∷ Step 0 ∷ Step 0 ∷ Step 0 ∷ Step 0 ∷ [])

waits_and_sets-journal : journal_of waits_and_sets ≡ Issue 0 0 ∷ Pass 0 1 ∷ Pass 0 2 ∷ Issue 0 3 ∷ []
unfolding run
waits_and_sets-journal = refl

waits_and_sets-replies : replies_of waits_and_sets ≡ Did ∷ Did ∷ Did ∷ Did ∷ Blocked ∷ []
unfolding run
waits_and_sets-replies = refl

waits_and_sets-reads : reads_of waits_and_sets 0 ≡ (3, 2) ∷ []
unfolding run
waits_and_sets-reads = refl

waits_and_sets-counters : counters_of waits_and_sets 0 ≡ 2 ∷ zeros 3
unfolding run
waits_and_sets-counters = refl

-- A set forgets what a put told before it, and a put counts on from it.
abbrev put_counts_after_a_set : Row
put_counts_after_a_set =
    two_tasks 64
    (Put 1 (Plain 0) 0 0 None (Some 0) None ∷ Set 0 10 ∷ Put 1 (Plain 0) 0 0 None (Some 0) None ∷ [])
    []
    (Step 0 ∷ Poll 0 ∷ Step 0 ∷ Step 0 ∷ Poll 0 ∷ [])

put_counts_after_a_set-counters : counters_of put_counts_after_a_set 0 ≡ 11 ∷ zeros 3
unfolding run
put_counts_after_a_set-counters = refl

-- Each reason for a refusal, in the order in which they are judged, a bad counter of a wait, and a put with four faults.
abbrev refused_in_order : Row
refused_in_order = record {
  script = record {
    layout = 1;
    tasks = 2;
    memory = 65536;
    counters = 2;
    workers = 1;
    lists =
        (Put 2 (Plain 0) 0 4 None None None
        ∷ Put 1 (Plain 65533) 0 4 None None None
        ∷ Put 1 (Plain 0) 65533 4 None None None
        ∷ Put 1 (Plain 0) 0 4 (Some 2) None None
        ∷ Put 1 (Plain 0) 0 16385 None None None
        ∷ Put 1 (Table 0 0) 0 4 None None None
        ∷ Am 1 4 (0 ∷ 0 ∷ 0 ∷ []) 0 4 None None None
        ∷ Am 1 0 (0 ∷ 0 ∷ 0 ∷ []) 0 4 None None None
        ∷ Putv 1 (Vector.List (piece 0 4 ∷ [])) (Vector.List (piece 0 4 ∷ piece 4 4 ∷ [])) None None None
        ∷ Putv 1 (Vector.List (piece 0 4 ∷ piece 8 4 ∷ [])) (Vector.List (piece 0 4 ∷ piece 4 8 ∷ [])) None None None
        ∷ Putv 1 (Stride (Plain 0) 8 4 2) (Stride (Plain 0) 8 8 2) None None None
        ∷ Rmw 1 Add (Plain 2) 1 0 0 None
        ∷ Wait 2 1
        ∷ Put 9 (Plain 65533) 65533 4 (Some 7) None None
        ∷ [])
        ∷ []
        ∷ [];
  };
  lines = replicate 14 (Step 0);
}

refused_in_order-journal : journal_of refused_in_order ≡ Refuse 0 0 BadTask ∷ Refuse 0 1 BadTargetRange ∷ Refuse 0 2 BadOriginRange ∷ Refuse 0 3 BadCounter ∷ Refuse 0 4 TooLong ∷ Refuse 0 5 NoTable ∷ Refuse 0 6 BadHandler ∷ Refuse 0 7 BadUserHeader ∷ Refuse 0 8 VecCount ∷ Refuse 0 9 VecLength ∷ Refuse 0 10 StrideBelowBlock ∷ Refuse 0 11 Misaligned ∷ Refuse 0 12 BadCounter ∷ Refuse 0 13 BadTask ∷ []
unfolding run
refused_in_order-journal = refl

refused_in_order-replies : replies_of refused_in_order ≡ replicate 14 Did
unfolding run
refused_in_order-replies = refl
