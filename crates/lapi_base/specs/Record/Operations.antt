-- What the statements of a script say: their pieces and counters, the messages that they have with ends and
-- lengths, and the fragments of a message. The operations and what their counters tell of follow the RSCT LAPI
-- Programming Guide, SA22-7936, in outline; legs, rounds and fragments are this project's own.
use Rattle.std.specs.Prelude.{ℕ, ◌+◌, ◌*◌, ◌==◌, nat_le, nat_lt, not, Bool, true, false, ◌&&◌, ◌||◌, List, [], ◌∷◌, length, map, slice_get, slice_index_or, Option, Some, None, is_some, unwrap_or, option_map}
use Rattle.std.specs.List.{sum}
use Rattle.lapi_base.specs.declared.address.Addr.{Addr}
use Rattle.lapi_base.specs.declared.address.Addr.TheVariants.{Plain, Table}
use Rattle.lapi_base.specs.declared.piece.Piece.{Piece}
use Rattle.lapi_base.specs.declared.span.Span.{Span}
use Rattle.lapi_base.specs.declared.vector.Vector.{Vector}
use Rattle.lapi_base.specs.declared.statement.Statement.{Statement}
use Rattle.lapi_base.specs.declared.statement.Statement.TheVariants.{Store, Put, Get, Putv, Getv, Rmw, Am, Wait, Set, Read, Fence, Gfence}
use Rattle.lapi_base.specs.declared.script.Script.{Script}
use Rattle.lapi_base.specs.declared.message.Leg.{Leg}
use Rattle.lapi_base.specs.declared.message.Leg.TheVariants.{Go, Back, Note, Echo, Join}
use Rattle.lapi_base.specs.declared.message.MsgName.{MsgName}
use Rattle.lapi_base.specs.Record.Below.{below}
use Rattle.lapi_base.specs.Packet.Layout.{unit_of}
use Rattle.lapi_base.specs.Record.Fragments.{fragments_in}

-- the numbers below n
unfoldable pub numbers_below : ℕ → List ℕ
numbers_below n = below n (λ _. true)

abbrev pub statements : Script → ℕ → List Statement
statements script a = slice_index_or script.lists a []

-- statement i of task a; past the end a fence, which names nothing
unfoldable pub statement : Script → ℕ → ℕ → Statement
statement script a i = slice_index_or (statements script a) i Fence

-- Addresses: `@R+OFF` for target d is the address that d gave in round R, plus OFF.

-- an address round: one whose address is within the memory
abbrev pub is_table : Script → Statement → Bool
is_table script (Statement.Addr at) = nat_le at script.memory
is_table script _ = false

abbrev pub is_addr : Statement → Bool
is_addr (Statement.Addr at) = true
is_addr _ = false

abbrev pub is_gfence : Statement → Bool
is_gfence Gfence = true
is_gfence _ = false

-- the statements of task a that are its address rounds, from round 0 on
unfoldable pub table_rounds : Script → ℕ → List ℕ
table_rounds script a = below (length (statements script a)) (λ i. is_table script (statement script a i))

abbrev pub given_address : Statement → ℕ
given_address (Statement.Addr at) = at
given_address _ = 0

unfoldable pub entry : Script → (round task : ℕ) → ℕ
entry script round d = unwrap_or (option_map (λ i. given_address (statement script d i)) (slice_get (table_rounds script d) round)) 0

unfoldable pub address : Script → (target : ℕ) → Addr → ℕ
address script d (Plain x) = x
address script d (Table round offset) = entry script round d + offset

-- Pieces. A stride has the pieces base + k * stride of length block.
abbrev pub shifted : Addr → ℕ → Addr
shifted (Plain x) y = Plain (x + y)
shifted (Table round offset) y = Table round (offset + y)

unfoldable pub pieces_of : Vector → List Piece
pieces_of (Vector.List pieces) = pieces
pieces_of (Vector.Stride base block stride count) = map (λ k. record { at = shifted base (k * stride); len = block }) (numbers_below count)

abbrev pub one_piece : Addr → ℕ → List Piece
one_piece at len = record { at = at; len = len } ∷ []

abbrev pub target_pieces : Statement → List Piece
target_pieces (Put target to from len tgt org cmpl) = one_piece to len
target_pieces (Get target from to len tgt org) = one_piece from len
target_pieces (Putv target to from tgt org cmpl) = pieces_of to
target_pieces (Getv target from to tgt org) = pieces_of from
target_pieces (Rmw target op at in1 in2 prev org) = one_piece at 4
target_pieces _ = []

-- also the bytes of a store, the previous-value word, and the address that is given to the others
abbrev pub origin_pieces : Statement → List Piece
origin_pieces (Store at bytes) = one_piece (Plain at) (length bytes)
origin_pieces (Put target to from len tgt org cmpl) = one_piece (Plain from) len
origin_pieces (Get target from to len tgt org) = one_piece (Plain to) len
origin_pieces (Putv target to from tgt org cmpl) = pieces_of from
origin_pieces (Getv target from to tgt org) = pieces_of to
origin_pieces (Rmw target op at in1 in2 prev org) = one_piece (Plain prev) 4
origin_pieces (Am target handler header from len tgt org cmpl) = one_piece (Plain from) len
origin_pieces (Statement.Addr at) = one_piece (Plain at) 0
origin_pieces _ = []

abbrev pub one_span : (at len : ℕ) → List Span
one_span at len = record { at = at; len = len } ∷ []

abbrev pub spans : Script → (target : ℕ) → List Piece → List Span
spans script d pieces = map (λ p. record { at = address script d p.at; len = p.len }) pieces

abbrev pub total : List Piece → ℕ
total pieces = sum (map (λ p. p.len) pieces)

-- Operations.
abbrev pub is_data : Statement → Bool
is_data (Put target to from len tgt org cmpl) = true
is_data (Get target from to len tgt org) = true
is_data (Putv target to from tgt org cmpl) = true
is_data (Getv target from to tgt org) = true
is_data (Rmw target op at in1 in2 prev org) = true
is_data (Am target handler header from len tgt org cmpl) = true
is_data _ = false

abbrev pub is_am : Statement → Bool
is_am (Am target handler header from len tgt org cmpl) = true
is_am _ = false

abbrev pub is_rmw : Statement → Bool
is_rmw (Rmw target op at in1 in2 prev org) = true
is_rmw _ = false

-- the data come back to the origin
abbrev pub has_back : Statement → Bool
has_back (Get target from to len tgt org) = true
has_back (Getv target from to tgt org) = true
has_back (Rmw target op at in1 in2 prev org) = true
has_back _ = false

-- a collective call tells each other task that it was entered
abbrev pub has_join : Statement → Bool
has_join s = is_gfence s || is_addr s

abbrev pub target_of : Statement → Option ℕ
target_of (Put target to from len tgt org cmpl) = Some target
target_of (Get target from to len tgt org) = Some target
target_of (Putv target to from tgt org cmpl) = Some target
target_of (Getv target from to tgt org) = Some target
target_of (Rmw target op at in1 in2 prev org) = Some target
target_of (Am target handler header from len tgt org cmpl) = Some target
target_of _ = None

abbrev pub target : Script → ℕ → ℕ → ℕ
target script a i = unwrap_or (target_of (statement script a i)) a

-- the counters that a statement names: at the target, at the origin, and for completion
abbrev pub tgt_counter : Statement → Option ℕ
tgt_counter (Put target to from len tgt org cmpl) = tgt
tgt_counter (Get target from to len tgt org) = tgt
tgt_counter (Putv target to from tgt org cmpl) = tgt
tgt_counter (Getv target from to tgt org) = tgt
tgt_counter (Am target handler header from len tgt org cmpl) = tgt
tgt_counter _ = None

abbrev pub org_counter : Statement → Option ℕ
org_counter (Put target to from len tgt org cmpl) = org
org_counter (Get target from to len tgt org) = org
org_counter (Putv target to from tgt org cmpl) = org
org_counter (Getv target from to tgt org) = org
org_counter (Rmw target op at in1 in2 prev org) = org
org_counter (Am target handler header from len tgt org cmpl) = org
org_counter _ = None

abbrev pub cmpl_counter : Statement → Option ℕ
cmpl_counter (Put target to from len tgt org cmpl) = cmpl
cmpl_counter (Putv target to from tgt org cmpl) = cmpl
cmpl_counter (Am target handler header from len tgt org cmpl) = cmpl
cmpl_counter _ = None

-- the counter of a wait, a set or a read
abbrev pub own_counter : Statement → Option ℕ
own_counter (Wait counter value) = Some counter
own_counter (Set counter value) = Some counter
own_counter (Read counter) = Some counter
own_counter _ = None

-- Messages: their ends, their lengths and their fragments.
abbrev pub from_by : (origin target : ℕ) → Leg → ℕ
from_by a b Go = a
from_by a b (Join d) = a
from_by a b Back = b
from_by a b Note = b
from_by a b Echo = b

abbrev pub to_by : (origin target : ℕ) → Leg → ℕ
to_by a b Go = b
to_by a b (Join d) = d
to_by a b Back = a
to_by a b Note = a
to_by a b Echo = a

abbrev pub sender : Script → MsgName → ℕ
sender script m = from_by m.origin (target script m.origin m.statement) m.leg

abbrev pub receiver : Script → MsgName → ℕ
receiver script m = to_by m.origin (target script m.origin m.statement) m.leg

abbrev pub length_by : Leg → Statement → ℕ
length_by Go (Put target to from len tgt org cmpl) = len
length_by Go (Putv target to from tgt org cmpl) = total (pieces_of from)
length_by Go (Am target handler header from len tgt org cmpl) = len
length_by Back (Get target from to len tgt org) = len
length_by Back (Getv target from to tgt org) = total (pieces_of from)
length_by Back (Rmw target op at in1 in2 prev org) = 4
length_by Echo s = 4
length_by _ _ = 0

unfoldable pub message_length : Script → MsgName → ℕ
message_length script m = length_by m.leg (statement script m.origin m.statement)

unfoldable pub fragment_count : Script → MsgName → ℕ
fragment_count script m = fragments_in (unit_of script) (message_length script m)

-- the pairs of this message and each of its fragments
unfoldable pub fragments : Script → MsgName → List (MsgName × ℕ)
fragments script m = map (λ j. (m, j)) (numbers_below (fragment_count script m))

-- a message is one that its statement has; a statement that answers has an Echo and no Note
abbrev pub has_leg : Script → (answers : Bool) → (origin : ℕ) → Leg → Statement → Bool
has_leg script answers a Go s = is_data s
has_leg script answers a Back s = has_back s
has_leg script answers a Note s = is_some (cmpl_counter s) && not answers
has_leg script answers a Echo s = answers
has_leg script answers a (Join d) s = has_join s && (nat_lt d script.tasks && not (d == a))
