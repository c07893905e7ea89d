-- What a task answers to the packets that came to it.
use Rattle.std.specs.Prelude.{◌≡◌, ℕ, true, zero, suc, ◌*◌, ◌<◌, ◌≤◌, cond, List, [], ◌++◌, length, slice_get, Option, None, Some}
use Rattle.lapi_base.specs.declared.script.Script.{Script}
use Rattle.lapi_base.specs.declared.packet.Packet.{Packet}
use Rattle.lapi_base.specs.declared.wire.WireEntry.{WireEntry}
use Rattle.lapi_base.specs.Packet.Format.{byte_count}
use Rattle.lapi_base.specs.Packet.Layout.{layout_of, bits_size, is_version}
use Rattle.lapi_base.specs.Record.Arrived.{ack_of}
use Rattle.lapi_base.specs.Packet.PacketBytes as written
use Rattle.lapi_task.specs.declared.task.Task.{Task}
use Rattle.lapi_task.specs.Alone.{answer_now, owes}
use Rattle.lapi_base.specs.Record.Valid.{ValidScript}
use Rattle.lapi_link.specs.Receiver.{ReceivingEnd, ReceivesFor}

-- the acknowledgement of these packets of the link between two tasks, as an entry of the wire back
abbrev pub answer : Script → List Packet → (from to : ℕ) → WireEntry
answer script ps a b = record { to = a; bytes = written.packet (ack_of script ps a b) }

-- the end of a link is there, and took these packets
abbrev pub ReceivesAt : Script → List Packet → Option ReceivingEnd → Type 0
ReceivesAt script ps None = ⊥
ReceivesAt script ps (Some s) = ReceivesFor script s ps

-- The task may tell another one what it took: it speaks a layout, both are among eight tasks, and the layout has a bit
-- for each number of the window.
pub record MayAnswer (task : Task) (from : ℕ) : Type 0 where
  pub version : is_version task.sizes.layout ≡ true
  pub own : task.state.number ≤ 7
  pub other : from ≤ 7
  pub there : from < length task.receivers.items
  pub window : (end : ReceivingEnd) → slice_get task.receivers.items from ≡ Some end
      → end.window.window ≤ 8 * byte_count (bits_size (layout_of task.sizes.layout))

-- Task t has taken these packets from a task.
pub record HasTaken (script : Script) (t : ℕ) (task : Task) (from : ℕ) (ps : List Packet) : Type 0 where
  pub valid : ValidScript script
  pub layout : task.sizes.layout ≡ script.layout
  pub number : task.state.number ≡ t
  pub known : t < script.tasks
  pub from_known : from < script.tasks
  pub receiver : ReceivesAt script ps (slice_get task.receivers.items from)

-- It may tell each task that there is, and has what it owes to each.
pub record MayPay (task : Task) : Type 0 where
  pub tasks : (to : ℕ) → to < task.sizes.tasks → MayAnswer task to
  pub owed : length task.owed.items ≡ task.sizes.tasks

-- what it tells a task that it owes it, and so for the first n tasks
abbrev pub owed_to : Task → (to : ℕ) → List WireEntry
owed_to task to = cond (owes task to) (answer_now task to) []

unfoldable pub owed_below : Task → (n : ℕ) → List WireEntry
owed_below task zero = []
owed_below task (suc b) = owed_below task b ++ owed_to task b
