-- When a task may receive a packet, by what the task has. No record is named.
use Rattle.std.specs.Prelude.{◌≡◌, ℕ, ◌<◌, Bool, true, ◌&&◌, not, length, slice_get, Some}
use Rattle.lapi_base.specs.declared.message.Leg.TheVariants.{Back}
use Rattle.lapi_base.specs.declared.packet.DataPacket.{DataPacket}
use Rattle.lapi_base.specs.declared.packet.Packet.{Packet}
use Rattle.lapi_base.specs.declared.packet.Packet.TheVariants.{Data, Ack}
use Rattle.lapi_base.specs.declared.rule.Rules.{Rules}
use Rattle.lapi_base.specs.declared.script.Script.{Script}
use Rattle.lapi_base.specs.Laws.Entries.{GoesFrom, layout_in}
use Rattle.lapi_base.specs.Record.Wires.{Run, IsEntry}
use Rattle.lapi_window.specs.NumberSet.{is_covered}
use Rattle.lapi_window.specs.RecvWindow.{is_taken}
use Rattle.lapi_window.specs.SendWindow.{sent_count}
use Rattle.lapi_reassembly.specs.Partial.{is_whole}
use Rattle.lapi_link.specs.Receiver.{ReceivingEnd, MayTake, gathered_with}
use Rattle.lapi_link.specs.Sender.{SendingEnd}
use Rattle.lapi_task.specs.declared.task.Task.{Task}
use Rattle.lapi_task.specs.HasEffect.{IsAt}
use Rattle.lapi_task.specs.Landed.{HeadMayLand}

-- an acknowledgement covers numbers alone that were sent
abbrev pub CoversSent : SendingEnd → (base bits : ℕ) → Type 0
CoversSent end base bits = (n : ℕ) → is_covered base bits n ≡ true → n < sent_count end.window

-- the packet has a new number, and with it all of its message has come
abbrev pub is_last : ReceivingEnd → DataPacket → Bool
is_last end p = not (is_taken end.window p.seq) && is_whole (gathered_with end.partials p)

-- A packet with data fits the task and the end of its link: the end may take it, an answer is to a statement of the task, and
-- a message that has come whole with it may land, whether a completion handler is named or not.
pub record DataFits (task : Task) (from : ℕ) (p : DataPacket) (end : ReceivingEnd) : Type 0 where
  pub take : MayTake end p
  pub own : p.name.leg ≡ Back → p.name.statement < length task.statements
  pub lands : is_last end p ≡ true → (completion : Bool) → HeadMayLand from p.head completion p.length task.state.memory task.state.counters task.state.collective

abbrev pub Fits : Task → (from : ℕ) → Packet → Type 0
Fits task from (Data p) = (end : ReceivingEnd) → slice_get task.receivers.items from ≡ Some end → DataFits task from p end
Fits task from (Ack layout sender receiver base bits) = (end : SendingEnd) → slice_get task.senders.items from ≡ Some end → CoversSent end base bits

-- A task may receive a packet in its layout that comes from a task that there is to this one, and fits what this one has.
pub record MayReceive (task : Task) (from : ℕ) (p : Packet) : Type 0 where
  pub known : from < task.sizes.tasks
  pub goes : GoesFrom from task.state.number p
  pub layout : layout_in p ≡ task.sizes.layout
  pub fits : Fits task from p

-- It may receive each entry of the wire from another task, by each record that it stands for.
abbrev pub WiresMayCome : Type 0
WiresMayCome = (script : Script) (rules : Rules) (t : ℕ) (task : Task) (r : Run) (from place : ℕ) (p : Packet) → IsAt script rules t task r → IsEntry r from t place p → MayReceive task from p
