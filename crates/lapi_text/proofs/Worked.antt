-- Small inputs, read by the definitions alone.
use Rattle.std.proofs.Common.{◌≡◌, ℕ, ◌-◌, List, [], ◌∷◌, ◌++◌, take, drop, replicate, refl, Some, None, Result, Ok, Err, true, false}
use Rattle.std.specs.Prelude.{codes}
use Rattle.std.specs.List.{flat_map, join_with_byte}
use Rattle.std.specs.Fmt.{digits}
use Rattle.hex.specs.Hex.{decode_pairs, encode_with}
use Rattle.lapi_base.specs.declared.address.Addr.{Addr}
use Rattle.lapi_base.specs.declared.address.Addr.TheVariants.{Plain, Table}
use Rattle.lapi_base.specs.declared.piece.Piece.{Piece}
use Rattle.lapi_base.specs.declared.vector.Vector.{Vector}
use Rattle.lapi_base.specs.declared.vector.Vector.TheVariants.{Stride}
use Rattle.lapi_base.specs.declared.statement.RmwOp.TheVariants.{Add, Or, Swap, Cas}
use Rattle.lapi_base.specs.declared.statement.Statement.{Statement}
use Rattle.lapi_base.specs.declared.statement.Statement.TheVariants.{Store, Put, Get, Putv, Getv, Rmw, Am, Wait, Set, Read, Fence, Gfence}
use Rattle.lapi_base.specs.declared.schedule.Act.{Act}
use Rattle.lapi_base.specs.declared.schedule.Act.TheVariants.{Step, Poll, Tick, Deliver, Cut, Inject}
use Rattle.lapi_base.specs.declared.schedule.Line.{Line}
use Rattle.lapi_base.specs.declared.input.Input.{Input}
use Rattle.lapi_base.specs.declared.input.Which.TheVariants as which
use Rattle.lapi_base.specs.declared.input.LineError.{LineError}
use Rattle.lapi_base.specs.declared.input.LineError.TheVariants.{Syntax, Limit}
use Rattle.lapi_base.specs.Packet.Spelling as packet
use Rattle.lapi_base.specs.Packet.Spelling.{spells_packet, packet_form, front_form, kind_form, acknowledgement_form}
use Rattle.lapi_base.specs.Input.Lines.{words_of}
use Rattle.lapi_base.specs.Input.Tokens.{number_of, counter_of, hex_of, optional_hex_of, plain_address_of, table_of, address_of, piece_of, listed_of, strided_of, vector_of, value_of}
use Rattle.lapi_base.specs.Input.Forms.{run, sized, TaskLine, StatementLine, head_form, sizes_form, store_form, put_form, get_form, putv_form, getv_form, one_operand_form, cas_form, rmw_form, amsend_form, wait_form, set_form, read_form, address_init_form, task_line_form, task_form, deliver_form, cut_form, inject_form, worker_form, line_form}
use Rattle.lapi_base.specs.Input.Rows.{statement_row, row_line, canon}
use Rattle.lapi_base.specs.Input.Reading.{State, Second, Start, Tasks, Lines, Fault, keeps_pieces, keeps_bytes, keeps_injected, names_known, step, after, read}

-- What the bytes read to. A proof with the line `unfolding reading` computes with all definitions.
unfoldable pub reading : List ℕ → Result Input Fault
unfolding decode_pairs number_of counter_of hex_of optional_hex_of plain_address_of table_of address_of piece_of listed_of strided_of vector_of value_of head_form sizes_form store_form put_form get_form putv_form getv_form one_operand_form cas_form rmw_form amsend_form wait_form set_form read_form address_init_form task_line_form task_form deliver_form cut_form inject_form worker_form line_form keeps_pieces keeps_bytes keeps_injected names_known step after
reading bytes = read bytes

abbrev pub text_of : List (List ℕ) → List ℕ
text_of lines = flat_map (λ line. line ++ 10 ∷ []) lines

-- the smallest run: a store, and a put of it
abbrev pub smallest : List (List ℕ)
smallest =
    codes "lapi 1"
    ∷ codes "tasks 2 memory 64 counters 4 workers 1"
    ∷ codes "task 0"
    ∷ codes "store 0 6162636465666768"
    ∷ codes "put 1 16 0 8 - - -"
    ∷ codes "task 1"
    ∷ codes "schedule"
    ∷ codes "0 step 0"
    ∷ codes "0 step 0"
    ∷ codes "0 poll 0"
    ∷ codes "0 deliver 0 1 0"
    ∷ codes "0 deliver 1 0 0"
    ∷ codes "done"
    ∷ []

abbrev pub line : ℕ → Act → Line
line lane act = record { lane = lane; act = act }

abbrev put_to : ℕ → Statement
put_to at = Put 1 (Plain at) 0 8 None None None

abbrev pub smallest_with : Statement → Input
smallest_with put = record {
  script = record {
    layout = 1;
    tasks = 2;
    memory = 64;
    counters = 4;
    workers = 1;
    lists = (Store 0 (0x61 ∷ 0x62 ∷ 0x63 ∷ 0x64 ∷ 0x65 ∷ 0x66 ∷ 0x67 ∷ 0x68 ∷ []) ∷ put ∷ []) ∷ [] ∷ [];
  };
  schedule = line 0 (Step 0) ∷ line 0 (Step 0) ∷ line 0 (Poll 0) ∷ line 0 (Deliver 0 1 0) ∷ line 0 (Deliver 1 0 0) ∷ [];
}

abbrev in_layout : ℕ → Input → Input
in_layout layout x = record x { script = record x.script { layout = layout } }

smallest-read : reading (text_of smallest) ≡ Ok (smallest_with (put_to 16))
unfolding reading
smallest-read = refl

smallest-written : canon (smallest_with (put_to 16)) ≡ text_of smallest
unfolding digits encode_with
smallest-written = refl

-- the smallest run with another line of this number, or one more behind the last
abbrev pub with_line : ℕ → List ℕ → Result Input Fault
with_line l text = reading (text_of (take (l - 1) smallest ++ text ∷ drop l smallest))

second_layout : with_line 1 (codes "lapi 2") ≡ Ok (in_layout 2 (smallest_with (put_to 16)))
unfolding reading
second_layout = refl

other_layout : with_line 1 (codes "lapi 3") ≡ Err (Syntax, 1)
unfolding reading
other_layout = refl

memory_no_multiple : with_line 2 (codes "tasks 2 memory 66 counters 4 workers 1") ≡ Err (Limit which.Memory, 2)
unfolding reading
memory_no_multiple = refl

sizes_in_order : with_line 2 (codes "tasks 9 memory 66 counters 65 workers 0") ≡ Err (Limit which.Tasks, 2)
unfolding reading
sizes_in_order = refl

tab : with_line 3 (codes "task" ++ 9 ∷ codes "0") ≡ Err (Syntax, 3)
unfolding reading
tab = refl

odd_digits : with_line 4 (codes "store 0 616") ≡ Err (Syntax, 4)
unfolding reading
odd_digits = refl

padded_number : with_line 5 (codes "put 1 016 0 8 - - -") ≡ Err (Syntax, 5)
unfolding reading
padded_number = refl

number_of_33_bits : with_line 5 (codes "put 1 4294967296 0 8 - - -") ≡ Err (Syntax, 5)
unfolding reading
number_of_33_bits = refl

greatest_number : with_line 5 (codes "put 1 4294967295 0 8 - - -") ≡ Ok (smallest_with (put_to 4294967295))
unfolding reading
greatest_number = refl

round_begun : (with_line 5 (codes "gfence") ≡ Ok (smallest_with Gfence)) × (with_line 5 (codes "address_init 8") ≡ Ok (smallest_with (Statement.Addr 8)))
unfolding reading
round_begun = (refl, refl)

put_at_a_table : with_line 5 (codes "put 1 @0+4 0 8 - - -") ≡ Ok (smallest_with (Put 1 (Table 0 4) 0 8 None None None))
unfolding reading
put_at_a_table = refl

put_in_fragments : with_line 5 (codes "put 1 16 0 257 0 1 2") ≡ Ok (smallest_with (Put 1 (Plain 16) 0 257 (Some 0) (Some 1) (Some 2)))
unfolding reading
put_in_fragments = refl

counters_used : (with_line 5 (codes "waitcntr 0 1") ≡ Ok (smallest_with (Wait 0 1))) × (with_line 5 (codes "setcntr 0 1") ≡ Ok (smallest_with (Set 0 1))) × (with_line 5 (codes "getcntr 0") ≡ Ok (smallest_with (Read 0)))
unfolding reading
counters_used = (refl, refl, refl)

syntax_before_limits : with_line 5 (codes "fence 1") ≡ Err (Syntax, 5)
unfolding reading
syntax_before_limits = refl

task_out_of_turn : with_line 6 (codes "task 2") ≡ Err (Syntax, 6)
unfolding reading
task_out_of_turn = refl

lane_too_great : with_line 8 (codes "16 step 0") ≡ Err (Limit which.Lane, 8)
unfolding reading
lane_too_great = refl

task_before_lane : with_line 8 (codes "16 step 2") ≡ Err (Syntax, 8)
unfolding reading
task_before_lane = refl

worker_before_lane : with_line 8 (codes "16 begin 1 9") ≡ Err (Syntax, 8)
unfolding reading
worker_before_lane = refl

lane_of_a_begin : with_line 8 (codes "16 begin 0 0") ≡ Err (Limit which.Lane, 8)
unfolding reading
lane_of_a_begin = refl

lane_of_a_cut : with_line 8 (codes "16 cut 0 1 0 33") ≡ Err (Limit which.Lane, 8)
unfolding reading
lane_of_a_cut = refl

free_spaces : with_line 10 (codes "0   poll 0 ") ≡ Ok (smallest_with (put_to 16))
unfolding reading
free_spaces = refl

word_after_done : with_line 14 (codes "x") ≡ Err (Syntax, 14)
unfolding reading
word_after_done = refl

remark_after_done : with_line 14 (codes "# x") ≡ Ok (smallest_with (put_to 16))
unfolding reading
remark_after_done = refl

byte_in_a_remark : with_line 14 (35 ∷ 13 ∷ []) ≡ Err (Syntax, 14)
unfolding reading
byte_in_a_remark = refl

-- ---- early ends: one after the last line that has a byte

nothing : reading [] ≡ Err (Syntax, 1)
unfolding reading
nothing = refl

line_feed : reading (10 ∷ []) ≡ Err (Syntax, 2)
unfolding reading
line_feed = refl

head_alone : reading (codes "lapi 1") ≡ Err (Syntax, 2)
unfolding reading
head_alone = refl

head_ended : reading (codes "lapi 1" ++ 10 ∷ []) ≡ Err (Syntax, 2)
unfolding reading
head_ended = refl

no_done : reading (text_of (take 12 smallest)) ≡ Err (Syntax, 13)
unfolding reading
no_done = refl

-- ---- bytes that may stand in a line, and the edges of each limit

edges_of_clean : (with_line 14 (35 ∷ 32 ∷ 126 ∷ []) ≡ Ok (smallest_with (put_to 16))) × (with_line 14 (35 ∷ 31 ∷ []) ≡ Err (Syntax, 14)) × (with_line 14 (35 ∷ 127 ∷ []) ≡ Err (Syntax, 14))
unfolding reading
edges_of_clean = (refl, refl, refl)

unfoldable sizes : List ℕ → Result State LineError
unfolding reading
sizes line = after (Second 1) line

least_sizes : sizes (codes "tasks 2 memory 64 counters 0 workers 1") ≡ Ok (Start (sized 1 2 64 0 1))
unfolding sizes
least_sizes = refl

greatest_sizes : sizes (codes "tasks 8 memory 65536 counters 64 workers 4") ≡ Ok (Start (sized 1 8 65536 64 4))
unfolding sizes
greatest_sizes = refl

past_tasks : (sizes (codes "tasks 1 memory 64 counters 0 workers 1") ≡ Err (Limit which.Tasks)) × (sizes (codes "tasks 9 memory 64 counters 0 workers 1") ≡ Err (Limit which.Tasks))
unfolding sizes
past_tasks = (refl, refl)

past_memory : (sizes (codes "tasks 2 memory 60 counters 0 workers 1") ≡ Err (Limit which.Memory)) × (sizes (codes "tasks 2 memory 65540 counters 0 workers 1") ≡ Err (Limit which.Memory))
unfolding sizes
past_memory = (refl, refl)

past_counters : sizes (codes "tasks 2 memory 64 counters 65 workers 1") ≡ Err (Limit which.Counters)
unfolding sizes
past_counters = refl

past_workers : (sizes (codes "tasks 2 memory 64 counters 0 workers 0") ≡ Err (Limit which.Workers)) × (sizes (codes "tasks 2 memory 64 counters 0 workers 5") ≡ Err (Limit which.Workers))
unfolding sizes
past_workers = (refl, refl)

greatest_lane : after (Lines (smallest_with (put_to 16)).script []) (codes "15 step 1") ≡ Ok (Lines (smallest_with (put_to 16)).script (line 15 (Step 1) ∷ []))
unfolding reading
greatest_lane = refl

-- a schedule of n lines in a layout
abbrev scheduled : (layout n : ℕ) → State
scheduled layout n = Lines (in_layout layout (smallest_with (put_to 16))).script (replicate n (line 0 (Step 0)))

last_line : after (scheduled 2 4999) (codes "0 step 0") ≡ Ok (scheduled 2 5000)
unfolding reading
last_line = refl

line_too_many : (after (scheduled 2 5000) (codes "0 step 0") ≡ Err (Limit which.Lines)) × (after (scheduled 1 20000) (codes "0 step 0") ≡ Err (Limit which.Lines))
unfolding reading
line_too_many = (refl, refl)

-- a task with n statements
abbrev pub filled : ℕ → State
filled n = Tasks (sized 1 2 64 4 1) (replicate n (Read 0))

last_statement : after (filled 511) (codes "getcntr 0") ≡ Ok (filled 512)
unfolding reading
last_statement = refl

statement_too_many : after (filled 512) (codes "store 0 61") ≡ Err (Limit which.Statements)
unfolding reading
statement_too_many = refl

round_too_many : after (filled 512) (codes "gfence") ≡ Err (Limit which.Statements)
unfolding reading
round_too_many = refl

schedule_ticks : after (Lines (smallest_with (put_to 16)).script []) (codes "0 tick 1") ≡ Ok (Lines (smallest_with (put_to 16)).script (line 0 (Tick 1) ∷ []))
unfolding reading
schedule_ticks = refl

abbrev stored : ℕ → Statement
stored n = Store 0 (replicate n 0)

most_stored : (keeps_bytes (stored 1024) ≡ true) × (keeps_bytes (stored 1025) ≡ false)
unfolding keeps_bytes
most_stored = (refl, refl)

abbrev headed : ℕ → Statement
headed n = Am 1 0 (replicate n 0) 0 4 None None None

longest_header : (keeps_bytes (headed 128) ≡ true) × (keeps_bytes (headed 129) ≡ false)
unfolding keeps_bytes
longest_header = (refl, refl)

abbrev injected : ℕ → Act
injected n = Inject 0 1 (replicate n 0)

most_bytes_injected : (keeps_injected (injected 1280) ≡ true) × (keeps_injected (injected 1281) ≡ false)
unfolding keeps_injected
most_bytes_injected = (refl, refl)

abbrev scattered : ℕ → Statement
scattered n = Getv 1 (Vector.List (replicate n (record { at = Plain 0; len = 4 }))) (Stride (Plain 0) 4 4 16) None None

most_pieces : (keeps_pieces (scattered 16) ≡ true) × (keeps_pieces (scattered 17) ≡ false)
unfolding keeps_pieces
most_pieces = (refl, refl)

-- ---- single lines

unfoldable says : List ℕ → Result TaskLine LineError
unfolding reading
says line = run task_line_form (words_of line)

abbrev pub piece : Addr → ℕ → Piece
piece at len = record { at = at; len = len }

upper_case : says (codes "store 0 aBcD") ≡ Ok (StatementLine (Store 0 (0xab ∷ 0xcd ∷ [])))
unfolding says
upper_case = refl

store_of_nothing : says (codes "store 0 -") ≡ Err Syntax
unfolding says
store_of_nothing = refl

tables : says (codes "put 1 @2 0 8 0 1 2") ≡ Ok (StatementLine (Put 1 (Table 2 0) 0 8 (Some 0) (Some 1) (Some 2)))
unfolding says
tables = refl

offset_of_nothing : says (codes "put 1 @2+0 0 8 - - -") ≡ Ok (StatementLine (Put 1 (Table 2 0) 0 8 None None None))
unfolding says
offset_of_nothing = refl

two_offsets : says (codes "put 1 @2+1+1 0 8 - - -") ≡ Err Syntax
unfolding says
two_offsets = refl

vectors : says (codes "putv 1 L:0:4,@1+8:12 S:16:4:8:2 - 0 -")
    ≡ Ok (StatementLine (Putv 1 (Vector.List (piece (Plain 0) 4 ∷ piece (Table 1 8) 12 ∷ [])) (Stride (Plain 16) 4 8 2) None (Some 0) None))
unfolding says
vectors = refl

table_at_the_origin : says (codes "putv 1 L:0:4 L:@1:4 - - -") ≡ Err Syntax
unfolding says
table_at_the_origin = refl

no_pieces : says (codes "putv 1 L: L:0:4 - - -") ≡ Err Syntax
unfolding says
no_pieces = refl

count_of_nothing : says (codes "putv 1 S:0:4:8:0 L:0:4 - - -") ≡ Err Syntax
unfolding says
count_of_nothing = refl

-- 17 pieces have the form, and pass the limit
abbrev many : Statement
many = Putv 1 (Vector.List (replicate 17 (piece (Plain 0) 4))) (Stride (Plain 0) 4 8 17) None None None

many_pieces : says (codes "putv 1 L:" ++ join_with_byte 44 (replicate 17 (codes "0:4")) ++ codes " S:0:4:8:17 - - -") ≡ Ok (StatementLine many)
unfolding says
many_pieces = refl

too_many_pieces : keeps_pieces many ≡ false
unfolding keeps_pieces
too_many_pieces = refl

add : says (codes "rmw 1 add 0 1 8 -") ≡ Ok (StatementLine (Rmw 1 Add (Plain 0) 1 0 8 None))
unfolding says
add = refl

second_operand_of_add : says (codes "rmw 1 add 0 1 2 8 -") ≡ Err Syntax
unfolding says
second_operand_of_add = refl

compare_and_swap : says (codes "rmw 1 cas @0 1 2 8 3") ≡ Ok (StatementLine (Rmw 1 Cas (Table 0 0) 1 2 8 (Some 3)))
unfolding says
compare_and_swap = refl

header_of_nothing : says (codes "amsend 1 0 - 0 4 0 - -") ≡ Ok (StatementLine (Am 1 0 [] 0 4 (Some 0) None None))
unfolding says
header_of_nothing = refl

-- each place of the other forms

put_places : says (codes "put 1 2 3 4 5 6 7") ≡ Ok (StatementLine (Put 1 (Plain 2) 3 4 (Some 5) (Some 6) (Some 7)))
unfolding says
put_places = refl

get_places : says (codes "get 1 @2+3 4 5 6 7") ≡ Ok (StatementLine (Get 1 (Table 2 3) 4 5 (Some 6) (Some 7)))
unfolding says
get_places = refl

getv_places : says (codes "getv 1 S:@2+3:4:5:6 L:7:8 9 10") ≡ Ok (StatementLine (Getv 1 (Stride (Table 2 3) 4 5 6) (Vector.List (piece (Plain 7) 8 ∷ [])) (Some 9) (Some 10)))
unfolding says
getv_places = refl

putv_places : says (codes "putv 1 L:2:3 L:4:5 6 7 8") ≡ Ok (StatementLine (Putv 1 (Vector.List (piece (Plain 2) 3 ∷ [])) (Vector.List (piece (Plain 4) 5 ∷ [])) (Some 6) (Some 7) (Some 8)))
unfolding says
putv_places = refl

or_places : says (codes "rmw 1 or 2 3 4 5") ≡ Ok (StatementLine (Rmw 1 Or (Plain 2) 3 0 4 (Some 5)))
unfolding says
or_places = refl

swap_places : says (codes "rmw 1 swap 2 3 4 5") ≡ Ok (StatementLine (Rmw 1 Swap (Plain 2) 3 0 4 (Some 5)))
unfolding says
swap_places = refl

amsend_places : says (codes "amsend 1 2 0304 5 6 7 8 9") ≡ Ok (StatementLine (Am 1 2 (3 ∷ 4 ∷ []) 5 6 (Some 7) (Some 8) (Some 9)))
unfolding says
amsend_places = refl

wait_places : says (codes "waitcntr 1 2") ≡ Ok (StatementLine (Wait 1 2))
unfolding says
wait_places = refl

set_places : says (codes "setcntr 1 2") ≡ Ok (StatementLine (Set 1 2))
unfolding says
set_places = refl

read_places : says (codes "getcntr 1") ≡ Ok (StatementLine (Read 1))
unfolding says
read_places = refl

fences : (says (codes "fence") ≡ Ok (StatementLine Fence)) × (says (codes "gfence") ≡ Ok (StatementLine Gfence))
unfolding says
fences = (refl, refl)

address_init_places : says (codes "address_init 1") ≡ Ok (StatementLine (Statement.Addr 1))
unfolding says
address_init_places = refl

unfoldable acts : List ℕ → Result Line LineError
unfolding reading
acts text = run line_form (words_of text)

one_task : (acts (codes "1 step 2") ≡ Ok (line 1 (Step 2))) × (acts (codes "1 poll 2") ≡ Ok (line 1 (Poll 2))) × (acts (codes "1 tick 2") ≡ Ok (line 1 (Tick 2)))
unfolding acts
one_task = (refl, refl, refl)

deliver_places : acts (codes "1 deliver 2 3 4") ≡ Ok (line 1 (Deliver 2 3 4))
unfolding acts
deliver_places = refl

cut_places : acts (codes "1 cut 2 3 4 5") ≡ Ok (line 1 (Cut 2 3 4 5))
unfolding acts
cut_places = refl

inject_places : acts (codes "1 inject 2 3 0405") ≡ Ok (line 1 (Inject 2 3 (4 ∷ 5 ∷ [])))
unfolding acts
inject_places = refl

nothing_injected : acts (codes "1 inject 2 3 -") ≡ Ok (line 1 (Inject 2 3 []))
unfolding acts
nothing_injected = refl

worker_places : (acts (codes "1 begin 2 3") ≡ Ok (line 1 (Act.Begin 2 3))) × (acts (codes "1 end 2 3") ≡ Ok (line 1 (Act.End 2 3)))
unfolding acts
worker_places = (refl, refl)

-- ---- the one text of a statement

abbrev text : Statement → List ℕ
text s = row_line (statement_row s)

table_text : text (Put 1 (Table 2 0) 0 8 (Some 0) None (Some 2)) ≡ codes "put 1 @2 0 8 0 - 2"
unfolding digits
table_text = refl

vector_texts : text (Putv 1 (Vector.List (piece (Plain 0) 4 ∷ piece (Table 1 8) 12 ∷ [])) (Stride (Plain 16) 4 8 2) None (Some 0) None) ≡ codes "putv 1 L:0:4,@1+8:12 S:16:4:8:2 - 0 -"
unfolding digits
vector_texts = refl

add_text : text (Rmw 1 Add (Plain 0) 1 0 8 None) ≡ codes "rmw 1 add 0 1 8 -"
unfolding digits
add_text = refl

compare_and_swap_text : text (Rmw 1 Cas (Table 0 0) 1 2 8 (Some 3)) ≡ codes "rmw 1 cas @0 1 2 8 3"
unfolding digits
compare_and_swap_text = refl

header_text : text (Am 1 0 [] 0 4 (Some 0) None None) ≡ codes "amsend 1 0 - 0 4 0 - -"
unfolding digits
header_text = refl

-- ---- what a line injects

-- an acknowledgement, and the same with a byte less
abbrev acknowledgement : List ℕ
acknowledgement = 0x4c ∷ 1 ∷ 2 ∷ 1 ∷ 0 ∷ 0 ∷ 0 ∷ 0 ∷ 1 ∷ 0 ∷ 0 ∷ 0 ∷ 0 ∷ []

packet_spelled : spells_packet acknowledgement ≡ true
unfolding spells_packet packet_form front_form packet.task_form kind_form acknowledgement_form
packet_spelled = refl

cut_packet : spells_packet (take 12 acknowledgement) ≡ false
unfolding spells_packet packet_form front_form packet.task_form kind_form acknowledgement_form
cut_packet = refl

-- a packet is a fault of syntax, whatever the lane; other bytes are handed over
packet_injected : after (Lines (smallest_with (put_to 16)).script []) (codes "16 inject 1 0 4c010201000000000100000000") ≡ Err Syntax
unfolding reading spells_packet packet_form front_form packet.task_form kind_form acknowledgement_form
packet_injected = refl

-- whatever the script's layout
second_packet_injected : (after (Lines (smallest_with (put_to 16)).script []) (codes "0 inject 1 0 4c0202010000000001ffffffff00000000") ≡ Err Syntax)
    × (after (scheduled 2 0) (codes "0 inject 1 0 4c010201000000000100000000") ≡ Err Syntax)
unfolding reading spells_packet packet_form front_form packet.task_form kind_form acknowledgement_form
second_packet_injected = (refl, refl)

cut_packet_injected : after (Lines (smallest_with (put_to 16)).script []) (codes "0 inject 1 0 4C0102010000000001000000") ≡ Ok (Lines (smallest_with (put_to 16)).script (line 0 (Inject 1 0 (take 12 acknowledgement)) ∷ []))
unfolding reading spells_packet packet_form front_form packet.task_form kind_form acknowledgement_form
cut_packet_injected = refl
