-- What the arrival of a packet makes of a task.
use Rattle.std.specs.Prelude.{◌≡◌, ◌≢◌, ℕ, ◌*◌, ◌^◌, ◌<◌, ◌≤◌, Bool, true, false, cond, ◌&&◌, List, [], ◌∷◌, ◌++◌, length, slice_get, slice_set, Option, Some, None, option_map, IfSome}
use Rattle.std.specs.Option.{option_or}
use Rattle.std.specs.List.{flat_map, fold}
use Rattle.lapi_base.specs.declared.event.Event.{Event}
use Rattle.lapi_base.specs.declared.event.Event.TheVariants.{Land}
use Rattle.lapi_base.specs.declared.handler.HeaderOut.{HeaderOut}
use Rattle.lapi_base.specs.declared.head.Head.{Head}
use Rattle.lapi_base.specs.declared.head.Head.TheVariants as heads
use Rattle.lapi_base.specs.declared.head.NoteOp.{NoteOp}
use Rattle.lapi_base.specs.declared.layout.TheConstants.{LONGEST_ACTIVE}
use Rattle.lapi_base.specs.declared.message.Leg.{Leg}
use Rattle.lapi_base.specs.declared.message.Leg.TheVariants.{Back, Note, Echo}
use Rattle.lapi_base.specs.declared.message.MsgName.{MsgName}
use Rattle.lapi_base.specs.declared.packet.DataPacket.{DataPacket}
use Rattle.lapi_base.specs.declared.packet.Packet.{Packet}
use Rattle.lapi_base.specs.declared.packet.Packet.TheVariants.{Data}
use Rattle.lapi_base.specs.declared.script.Script.{Script}
use Rattle.lapi_base.specs.declared.span.Span.{Span}
use Rattle.lapi_base.specs.Laws.Receiving.{bytes_in}
use Rattle.lapi_base.specs.Packet.Layout.{layout_of, unit}
use Rattle.lapi_base.specs.Record.Handlers.{number_of, word_bytes}
use Rattle.lapi_base.specs.Record.HeadSays.{is_active, announces, follows, head_pieces, back_head, asked_pieces, note_head}
use Rattle.lapi_base.specs.Record.Names.{message}
use Rattle.lapi_base.specs.Record.Values.{Write, rmw_word, scattered}
use Rattle.lapi_memory.specs.TaskMemory.{bytes_at, written}
use Rattle.lapi_vector.specs.Pieces.{AreWithin, total_of}
use Rattle.lapi_reassembly.specs.declared.message.Message.{Message}
use Rattle.lapi_reassembly.specs.Partial.{IsMessageOf}
use Rattle.lapi_jobs.specs.declared.pending.Pending.{Pending}
use Rattle.lapi_jobs.specs.Jobs.{Works}
use Rattle.lapi_link.specs.declared.arrival.Arrival.{Arrival}
use Rattle.lapi_link.specs.declared.arrival.Arrival.TheVariants.{Whole, Repeat, First, More, FirstWhole}
use Rattle.lapi_link.specs.Receiver.{ReceivingEnd, ReceivesFor, MayArrive, MayTake, TakesOnce, is_partial, answer_of, arrival_of, whole_message}
use Rattle.lapi_link.specs.Sender.{SendingEnd}
use Rattle.lapi_task.specs.Answered.{completes_in, kept_pieces, job_in}
use Rattle.lapi_task.specs.Outgoing.{with_message, AreSpelled}
use Rattle.lapi_task.specs.declared.task.Task.{Task}
use Rattle.lapi_task.specs.Counting.{announced}
use Rattle.lapi_task.specs.HasRounds.{MayJoin, JoinsBy}
use Rattle.lapi_task.specs.declared.collective.Collective.{Collective}

-- What its landing writes: the word that it makes of the one that stood there; its bytes, where the answer to its header
-- keeps them; or its bytes, piece by piece;
abbrev pub head_writes : Head → Option HeaderOut → (bytes memory : List ℕ) → List Write
head_writes (heads.RmwGo op at in1 in2 prev org) out bytes memory =
    (at, word_bytes (rmw_word op (number_of (bytes_at memory at 4)) in1 in2)) ∷ []
head_writes (heads.Am handler tgt cmpl header) out bytes memory =
    scattered (kept_pieces (length memory) (length bytes) out) bytes
head_writes head out bytes memory = scattered (head_pieces head (length bytes)) bytes

-- and the memory after these writes, in order.
abbrev pub after_writes : (memory : List ℕ) → List Write → List ℕ
after_writes memory writes = fold (λ m w. written m w.0 w.1) memory writes

abbrev pub head_memory : Head → Option HeaderOut → (bytes memory : List ℕ) → List ℕ
head_memory head out bytes memory = after_writes memory (head_writes head out bytes memory)

-- A message that follows a landing: what its packets have in common, and its bytes.
pub record Follower : Type 0 where
  pub packet : DataPacket
  pub bytes : List ℕ

-- what the packets have in common, where task t sends this leg of message m to task a in a layout
abbrev pub follower_packet : (layout t a : ℕ) → MsgName → Leg → Head → (length : ℕ) → DataPacket
follower_packet layout t a m leg head len = record {
  layout = layout;
  from = t;
  to = a;
  seq = 0;
  name = message m.origin m.statement leg;
  head = head;
  length = len;
  fragment = 0;
  payload = [];
}

-- a notice, which has no bytes,
abbrev pub note_of : (layout t a : ℕ) → MsgName → Head → Follower
note_of layout t a m head = record { packet = follower_packet layout t a m Note head 0; bytes = [] }

-- the word that a completion handler has for the origin,
abbrev pub echo_of : (layout t a : ℕ) → MsgName → (dest value : ℕ) → (cmpl : Option ℕ) → Follower
echo_of layout t a m dest value cmpl = record {
  packet = follower_packet layout t a m Echo (heads.Echo dest cmpl) 4;
  bytes = word_bytes value;
}

-- and an answer with what stands at these pieces of a memory
abbrev pub back_of : (layout t a : ℕ) → MsgName → (pieces : List Span) → (memory : List ℕ) → Head → Follower
back_of layout t a m pieces memory head = record {
  packet = follower_packet layout t a m Back head (bytes_in pieces);
  bytes = flat_map (λ p. bytes_at memory p.at p.len) pieces;
}

-- the head of the notice that goes out with the landing: an active message with a completion has its notice later
abbrev pub note_now : Head → (completion : Bool) → Option Head
note_now (heads.Am handler tgt cmpl header) completion = cond completion None (option_map (heads.Note NoteOp.Am) cmpl)
note_now head completion = note_head head

-- the message that follows the landing at task t of what came from task a, if one does
abbrev pub follower : (layout t a : ℕ) → MsgName → Head → (completion : Bool) → (memory : List ℕ) → Option Follower
follower layout t a m head completion memory =
    option_or (option_map (back_of layout t a m (asked_pieces head) memory) (back_head head))
    (option_map (note_of layout t a m) (note_now head completion))

-- the sending ends with its packets more at the end of its link
abbrev pub with_follower_at : (unit : ℕ) → Follower → Option SendingEnd → List SendingEnd → List SendingEnd
with_follower_at unit x None ends = ends
with_follower_at unit x (Some s) ends = slice_set ends x.packet.to (with_message unit x.packet x.bytes s)

abbrev pub with_follower : (unit : ℕ) → Option Follower → List SendingEnd → List SendingEnd
with_follower unit None ends = ends
with_follower unit (Some x) ends = with_follower_at unit x (slice_get ends x.packet.to) ends

-- its bytes are as many as its packets say, they are few, and the packets have spellings
pub record MayLeave (unit : ℕ) (x : Follower) : Type 0 where
  pub size : length x.bytes ≡ x.packet.length
  pub short : x.packet.length ≤ 64 * unit
  pub spelled : AreSpelled unit x.packet x.bytes

-- A message with so many bytes may land: its places, the places that it asks for and its counter are there, and its origin
-- may join the round that it names.
pub record HeadMayLand (a : ℕ) (head : Head) (completion : Bool) (len : ℕ) (memory counters : List ℕ) (collective : Collective) : Type 0 where
  pub pieces : AreWithin (head_pieces head len) (length memory)
  pub total : is_active head ≡ false → total_of (head_pieces head len) ≡ len
  pub asked : AreWithin (asked_pieces head) (length memory)
  pub counter : (c : ℕ) → announces head completion ≡ Some c → c < length counters
  pub joins : MayJoin a head collective

-- what follows its landing, if a message does, may leave
abbrev pub FollowerMayLeave : (layout t a : ℕ) → MsgName → Head → (completion : Bool) → (memory : List ℕ) → Type 0
FollowerMayLeave layout t a m head completion memory =
    (x : Follower) → follower layout t a m head completion memory ≡ Some x → MayLeave (unit (layout_of layout)) x

-- the first fragment of a message that has come
abbrev pub is_first : Arrival → Bool
is_first First = true
is_first (FirstWhole m) = true
is_first Repeat = false
is_first More = false
is_first (Whole m) = false

-- the header handler is called at the first fragment of an active message
abbrev pub called : (first : Bool) → MsgName → Head → List Event
called first m head = cond (first && is_active head) (Event.Head m ∷ []) []

-- the message that is whole with a packet, with the answer that was kept, or that is given now to its first fragment
abbrev pub landed : Option HeaderOut → Arrival → Option Message
landed now (Whole m) = Some m
landed now (FirstWhole m) = Some (record m { out = now })
landed now Repeat = None
landed now First = None
landed now More = None

-- The same of the message that is whole with a packet, if one is, where there are so many completion handlers.
abbrev pub memory_after : Option Message → (memory : List ℕ) → List ℕ
memory_after (Some m) memory = head_memory m.head m.out m.bytes memory
memory_after None memory = memory

abbrev pub counters_after : (count : ℕ) → Option Message → (counters : List ℕ) → List ℕ
counters_after count (Some m) counters = announced counters (announces m.head (completes_in count m.out))
counters_after count None counters = counters

abbrev pub ends_after : (layout t a count : ℕ) → Option Message → (memory : List ℕ) → (ends : List SendingEnd) → List SendingEnd
ends_after layout t a count (Some m) memory ends =
    with_follower (unit (layout_of layout)) (follower layout t a m.name m.head (completes_in count m.out) memory) ends
ends_after layout t a count None memory ends = ends

-- the jobs with this one more that waits
abbrev pub with_job : Works → Option Pending → Works
with_job jobs None = jobs
with_job jobs (Some job) = record jobs { waiting = jobs.waiting ++ job ∷ [] }

abbrev pub jobs_after : (size count : ℕ) → Option Message → Works → Works
jobs_after size count (Some m) jobs = with_job jobs (job_in size count m.name m.head (length m.bytes) m.out)
jobs_after size count None jobs = jobs

abbrev pub events_of : (count : ℕ) → Option Message → List Event
events_of count (Some m) = Land m.name ∷ follows m.head (completes_in count m.out) m.name
events_of count None = []

abbrev pub ArrivalMayLand : (a count : ℕ) → Option Message → (memory counters : List ℕ) → Collective → Type 0
ArrivalMayLand a count (Some m) memory counters collective =
    HeadMayLand a m.head (completes_in count m.out) (length m.bytes) memory counters collective
ArrivalMayLand a count None memory counters collective = Unit {0}

abbrev pub ArrivalMayAnswer : (layout t a count : ℕ) → Option Message → (memory : List ℕ) → Type 0
ArrivalMayAnswer layout t a count (Some m) memory = FollowerMayLeave layout t a m.name m.head (completes_in count m.out) memory
ArrivalMayAnswer layout t a count None memory = Unit {0}

-- task a joined the round that the message names, if one has come and it names one
abbrev pub ArrivalJoins : (a : ℕ) → Option Message → (before after : Collective) → Type 0
ArrivalJoins a (Some m) before after = JoinsBy a m.head before after
ArrivalJoins a None before after = after ≡ before

-- a number of 32 bits counts the jobs that wait
abbrev pub FewWait : Works → Type 0
FewWait jobs = length jobs.waiting < 2 ^ 32

-- What came from task a took effect at the task, where there are so many completion handlers.
pub record HasArrived (a count : ℕ) (arrival : Option Message) (before after : Task) (old new : List Event) : Type 0 where
  pub memory : after.state.memory ≡ memory_after arrival before.state.memory
  pub counters : after.state.counters ≡ counters_after count arrival before.state.counters
  pub jobs : after.state.jobs ≡ jobs_after (length before.state.memory) count arrival before.state.jobs
  pub few : FewWait before.state.jobs → FewWait after.state.jobs
  pub joins : ArrivalJoins a arrival before.state.collective after.state.collective
  pub senders : after.senders.items ≡ ends_after before.sizes.layout before.state.number a count arrival before.state.memory before.senders.items
  pub events : new ≡ old ++ events_of count arrival
  pub none : arrival ≡ None → after ≡ before
  pub rest : after ≡ record before { senders = after.senders; state = record before.state { memory = after.state.memory; counters = after.state.counters; jobs = after.state.jobs; collective = after.state.collective } }

-- The header handler may be given the message.
pub record MayCall (p : DataPacket) : Type 0 where
  pub origin : p.name.origin < 8
  pub length : is_active p.head ≡ true → p.length ≤ LONGEST_ACTIVE

-- the answer that is kept from now on: that to the first fragment of a message of which others are missing
abbrev pub kept_now : Arrival → Option HeaderOut → Option HeaderOut
kept_now First now = now
kept_now _ now = None

-- The end keeps the answer, and is as before but for it.
pub record KeepsAnswer (m : MsgName) (now : Option HeaderOut) (before after : ReceivingEnd) : Type 0 where
  pub numbers : after.window ≡ before.window
  pub none : now ≡ None → after ≡ before
  pub stands : (script : Script) (packets : List Packet) → ReceivesFor script before packets → ReceivesFor script after packets
  pub own : answer_of after m ≡ option_or now (answer_of before m)
  pub others : (k : MsgName) → k ≢ m → answer_of after k ≡ answer_of before k

-- the packet may come to the end of the link from task a
pub record MayCome (ends : List ReceivingEnd) (a : ℕ) (p : DataPacket) : Type 0 where
  pub there : a < length ends
  pub takes : (end : ReceivingEnd) → slice_get ends a ≡ Some end → MayTake end p

-- The end of the link from task a took the packet: what came of it, and what is answered now to an active message's
-- first fragment, which is kept while others are missing.
pub record HasCome (before after : List ReceivingEnd) (a : ℕ) (p : DataPacket) (now : Option HeaderOut) (came : Option Message) (events events_then : List Event) (old : ReceivingEnd) : Type 0 where
  pub arrival : Arrival
  pub mid : ReceivingEnd
  pub end : ReceivingEnd
  pub ends : after ≡ slice_set before a end
  pub stands : (script : Script) (packets : List Packet) → ReceivesFor script old packets → MayArrive script packets p → ReceivesFor script mid (Data p ∷ packets)
  pub once : TakesOnce old mid p arrival
  pub message : IfSome (whole_message arrival) (IsMessageOf p.name p.head p.length)
  pub told : (script : Script) (packets : List Packet) → ReceivesFor script old packets → MayArrive script packets p → arrival ≡ arrival_of script packets p (answer_of old p.name)
  pub answers : (m : MsgName) → is_partial mid m ≡ true → answer_of mid m ≡ answer_of old m
  pub keeps : KeepsAnswer p.name (kept_now arrival now) mid end
  pub whole : came ≡ landed now arrival
  pub calls : events_then ≡ events ++ called (is_first arrival) p.name p.head
