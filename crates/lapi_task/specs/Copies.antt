-- What a copy changes in its task, and what a poll sends.
use Rattle.std.specs.Prelude.{◌≡◌, ℕ, ◌*◌, ◌<◌, ◌≤◌, true, List, [], ◌∷◌, ◌++◌, cond, length, map, take, set, slice_get, Some, None, option_map}
use Rattle.std.specs.List.{flat_map}
use Rattle.lapi_base.specs.declared.event.Event.{Event}
use Rattle.lapi_base.specs.declared.event.Event.TheVariants.{Copy}
use Rattle.lapi_base.specs.declared.script.Script.{Script}
use Rattle.lapi_base.specs.declared.rule.Rules.{Rules}
use Rattle.lapi_base.specs.declared.message.Leg.TheVariants.{Go, Join}
use Rattle.lapi_base.specs.declared.layout.TheConstants.{PAYLOAD_ROOM}
use Rattle.lapi_base.specs.Record.Atomic.{Atomic}
use Rattle.lapi_base.specs.Record.Names.{message}
use Rattle.lapi_base.specs.Record.Operations.{statements, statement, target, spans, origin_pieces, org_counter, has_back, has_join}
use Rattle.lapi_base.specs.Record.Wires.{Run, numbered, is_acked}
use Rattle.lapi_base.specs.Record.Acts.{followed, copy_each, ready, to_copy_of}
use Rattle.lapi_link.specs.Sender.{SendingEnd, sendable, sent}
use Rattle.lapi_memory.specs.TaskMemory.{bytes_at}
use Rattle.lapi_reassembly.specs.Partial.{IsUnit}
use Rattle.lapi_task.specs.declared.copy.DataCopy.{DataCopy}
use Rattle.lapi_task.specs.declared.task.Task.{Task}
use Rattle.lapi_task.specs.Counting.{announced}
use Rattle.lapi_task.specs.Landed.{Follower}
use Rattle.lapi_task.specs.Outgoing.{outgoing, with_message, AreSpelled}
use Rattle.lapi_vector.specs.Pieces.{AreWithin}
use Rattle.lapi_task.specs.StandsFor.{HasCalls, StandsFor}

-- the copy of the data of statement i of task t: where they don't come back, its bytes are those of the pieces at the
-- origin, and it announces the origin's counter
abbrev pub copy_of : Script → (t i : ℕ) → DataCopy
copy_of script t i =
    let s = statement script t i in record {
      message = outgoing script (message t i Go);
      source = cond (has_back s) [] (spans script (target script t i) (origin_pieces s));
      counter = cond (has_back s) None (org_counter s);
    }

-- the bytes of its pieces, in order
abbrev pub source : List ℕ → DataCopy → List ℕ
source memory c = flat_map (λ p. bytes_at memory p.at p.len) c.source

-- A task may copy these data: their target, their pieces and their counter are there, they aren't too long, and their
-- packets have spellings;
pub record IsCopyable (unit : ℕ) (task : Task) (c : DataCopy) : Type 0 where
  pub target : c.message.to < length task.senders.items
  pub within : AreWithin c.source (length task.state.memory)
  pub size : IsUnit unit × (unit ≤ PAYLOAD_ROOM)
  pub long : (length (source task.state.memory c) ≡ c.message.length) × (c.message.length ≤ 64 * unit)
  pub counter : (d : ℕ) → c.counter ≡ Some d → d < length task.state.counters
  pub spelled : AreSpelled unit c.message (source task.state.memory c)

-- and this was changed as it did.
pub record IsCopied (unit : ℕ) (c : DataCopy) (before after : Task) : Type 0 where
  pub sender : SendingEnd
  pub senders : after.senders.items ≡ set before.senders.items c.message.to sender
  pub change : (s : SendingEnd) → slice_get before.senders.items c.message.to ≡ Some s
      → sender ≡ with_message unit c.message (source before.state.memory c) s
  pub counters : after.state.counters ≡ announced before.state.counters c.counter
  pub rest : after ≡ record before { senders = after.senders; state = record before.state { counters = after.state.counters } }

-- the Copies of the messages that statement i of task t may copy
abbrev pub copies_of : Script → List Event → (t i : ℕ) → List Event
copies_of script J t i = map (λ m. Copy m) (to_copy_of script J t i)

-- Statement i is the first whose messages wait, their Copies may be the next events, and what is acknowledged has its
-- number.
pub record CopiesNext (script : Script) (rules : Rules) (t : ℕ) (task : Task) (r : Run) (i : ℕ) (rest : List ℕ) : Type 0 where
  pub known : t < script.tasks
  pub stands : StandsFor script rules t task r
  pub first : task.state.uncopied.items ≡ i ∷ rest
  pub atomic : Atomic script rules (followed r.journal (copies_of script r.journal t i))
  pub told : (b n : ℕ) → is_acked r t b n ≡ true → n < length (numbered script r.journal t b)

-- the first number was taken off the list of those that wait
pub record IsPopped (before after : Task) (rest : List ℕ) : Type 0 where
  pub list : after.state.uncopied.items ≡ rest
  pub others : after ≡ record before { state = record before.state { uncopied = after.state.uncopied } }

-- Statement i was taken off it, and its messages are copied next.
pub record CopiesNow (script : Script) (rules : Rules) (t : ℕ) (task : Task) (r : Run) (i : ℕ) (rest : List ℕ) : Type 0 where
  pub before : Task
  pub next : CopiesNext script rules t before r i rest
  pub popped : IsPopped before task rest

-- Its messages were copied: the events are their Copies, and the task stands for the record with them.
pub record HasCopied (script : Script) (rules : Rules) (t : ℕ) (r : Run) (i : ℕ) (rest : List ℕ) (task : Task) (old new : List Event) : Type 0 where
  pub added : new ≡ old ++ copies_of script r.journal t i
  pub left : task.state.uncopied.items ≡ rest
  pub stands : StandsFor script rules t task (record r { journal = followed r.journal (copies_of script r.journal t i) })

-- the Join of statement i of task t to task d, which has no bytes
abbrev pub join_of : Script → (t i d : ℕ) → Follower
join_of script t i d = record { packet = outgoing script (message t i (Join d)); bytes = [] }

-- Statement i of the task has a Join to task d, whose Copy may be the next event.
pub record MayTell (script : Script) (rules : Rules) (t : ℕ) (task : Task) (J : List Event) (i d : ℕ) : Type 0 where
  pub calls : HasCalls script rules t task
  pub number : task.state.number ≡ t
  pub within : i < length (statements script t)
  pub join : has_join (statement script t i) ≡ true
  pub link : d < length task.senders.items
  pub atomic : Atomic script rules (Copy (message t i (Join d)) ∷ J)

-- an end once all was sent that may be
abbrev pub sent_now : SendingEnd → SendingEnd
sent_now s = sent s (sendable s)

abbrev pub packets_now : SendingEnd → List (List ℕ)
packets_now s = take (sendable s) s.waiting

-- so many of the ends have sent what they may
pub record AllSent (count : ℕ) (before after : List SendingEnd) : Type 0 where
  pub done : (b : ℕ) → b < count → slice_get after b ≡ option_map sent_now (slice_get before b)
  pub others : (b : ℕ) → count ≤ b → slice_get after b ≡ slice_get before b
  pub size : length after ≡ length before

-- all that waited was copied: the events are the Copies of a poll, and the task stands for the record with them
pub record AllCopied (script : Script) (rules : Rules) (t : ℕ) (r : Run) (task : Task) (old new : List Event) : Type 0 where
  pub events : List Event
  pub added : new ≡ old ++ events
  pub copied : followed r.journal events ≡ copy_each r.journal (ready script r.journal t)
  pub stands : StandsFor script rules t task (record r { journal = followed r.journal events })
