-- What a packet that a task received did there, with no record named.
use Rattle.std.specs.Prelude.{◌≡◌, ℕ, ◌+◌, ◌==◌, ◌||◌, ◌&&◌, Bool, true, false, cond, List, [], ◌∷◌, ◌++◌, slice_get, Option, None, Some}
use Rattle.lapi_base.specs.declared.packet.DataPacket.{DataPacket}
use Rattle.lapi_base.specs.declared.packet.Packet.{Packet}
use Rattle.lapi_base.specs.declared.packet.Packet.TheVariants.{Data, Ack}
use Rattle.lapi_base.specs.declared.wire.WireEntry.{WireEntry}
use Rattle.lapi_base.specs.Packet.PacketBytes as written
use Rattle.lapi_base.specs.Packet.Layout.{layout_of, waits_for_poll}
use Rattle.lapi_base.specs.Record.Below.{bits_of}
use Rattle.lapi_window.specs.RecvWindow.{base_of, is_taken}
use Rattle.lapi_link.specs.Receiver.{ReceivingEnd}
use Rattle.lapi_task.specs.declared.outcome.Outcome.{Outcome}
use Rattle.lapi_task.specs.declared.task.Task.{Task}

-- the end of a link has taken this number
abbrev pub has_come : Option ReceivingEnd → ℕ → Bool
has_come None n = false
has_come (Some end) n = is_taken end.window n

abbrev pub has_taken : Task → (from n : ℕ) → Bool
has_taken task from n = has_come (slice_get task.receivers.items from) n

-- what a task tells another one: the least number that has not come, and which ones after it have
abbrev pub answer_by : (layout number to : ℕ) → Option ReceivingEnd → List WireEntry
answer_by layout number to None = []
answer_by layout number to (Some end) =
    let base = base_of end.window in
    let bits = bits_of end.window.window (λ i. is_taken end.window (base + i)) in
    record { to = to; bytes = written.packet (Ack layout number to base bits) } ∷ []

abbrev pub answer_now : Task → (to : ℕ) → List WireEntry
answer_now task to = answer_by task.sizes.layout task.state.number to (slice_get task.receivers.items to)

-- what it tells as a packet comes: by the layout that waits for the next poll
abbrev pub answer_at_once : Task → (to : ℕ) → List WireEntry
answer_at_once task to = cond (waits_for_poll (layout_of task.sizes.layout)) [] (answer_now task to)

-- the task owes another one that it tells it
abbrev pub is_owed : Option Bool → Bool
is_owed None = false
is_owed (Some owed) = owed

abbrev pub owes : Task → (to : ℕ) → Bool
owes task to = is_owed (slice_get task.owed.items to)

-- the task is as it was, but for what it owes
pub record IsAsBefore (before after : Task) : Type 0 where
  pub receivers : after.receivers.items ≡ before.receivers.items
  pub rest : after ≡ record before { receivers = after.receivers; owed = after.owed }

-- A packet with data was received: its number has come too, the task that sent it is told so, or is owed it, and no other
-- one is told anything. Where its number had come before, the task is as it was, but for what it owes, and nothing
-- happened.
pub record DataIsReceived (before after : Task) (from : ℕ) (p : DataPacket) (old new : Outcome) : Type 0 where
  pub numbers : (n : ℕ) → has_taken after from n ≡ (n == p.seq || has_taken before from n)
  pub answered : new.entries ≡ old.entries ++ answer_at_once after from
  pub owed : (b : ℕ) → owes after b ≡ ((waits_for_poll (layout_of before.sizes.layout) && b == from) || owes before b)
  pub repeat : has_taken before from p.seq ≡ true → IsAsBefore before after × (new.events ≡ old.events)

-- An acknowledgement is not answered, and nothing happens.
abbrev pub IsReceived : (before after : Task) (from : ℕ) → Packet → (old new : Outcome) → Type 0
IsReceived before after from (Data p) old new = DataIsReceived before after from p old new
IsReceived before after from (Ack layout sender receiver base bits) old new = new ≡ old
