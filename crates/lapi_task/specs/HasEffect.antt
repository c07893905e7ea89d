-- What a call of a task did, where it stood for a record.
use Rattle.std.specs.Prelude.{◌≡◌, ℕ, ◌<◌, ◌==◌, List, ◌++◌, map, filter, Result, Ok, Err}
use Rattle.std.specs.List.{AllByRecursion}
use Rattle.lapi_base.specs.declared.script.Script.{Script}
use Rattle.lapi_base.specs.declared.rule.Rules.{Rules}
use Rattle.lapi_base.specs.declared.event.Event.{Event}
use Rattle.lapi_base.specs.declared.packet.Packet.{Packet}
use Rattle.lapi_base.specs.declared.packet.Packet.TheVariants as packets
use Rattle.lapi_base.specs.declared.reply.Bad.{Bad}
use Rattle.lapi_base.specs.declared.wire.WireEntry.{WireEntry}
use Rattle.lapi_base.specs.Record.Wires.{Run}
use Rattle.lapi_base.specs.Record.Acts.{followed}
use Rattle.lapi_base.specs.Record.WorldView.{IsRecord}
use Rattle.lapi_base.specs.Packet.PacketBytes as written
use Rattle.lapi_task.specs.declared.outcome.Outcome.{Outcome}
use Rattle.lapi_task.specs.declared.received.Received.{Received}
use Rattle.lapi_task.specs.declared.received.Received.TheVariants as received
use Rattle.lapi_task.specs.declared.task.Task.{Task}
use Rattle.lapi_task.specs.StandsFor.{StandsFor}

-- the bytes of the entries for the wire to task b
abbrev pub bytes_to : (b : ℕ) → List WireEntry → List (List ℕ)
bytes_to b entries = map (λ (e : WireEntry). e.bytes) (filter (λ (e : WireEntry). e.to == b) entries)

-- Task t stands for a record of valid acts.
pub record IsAt (script : Script) (rules : Rules) (t : ℕ) (task : Task) (r : Run) : Type 0 where
  pub recorded : IsRecord script rules r
  pub known : t < script.tasks
  pub stands : StandsFor script rules t task r

-- it does so for some record
abbrev pub IsAtSome : Task → Type 0
IsAtSome task = (script : Script) × (rules : Rules) × (t : ℕ) × (r : Run) × IsAt script rules t task r

-- The task stands for the record after the act, and the outcome has the events and the entries that the act adds to the record before it.
pub record HasEffect (script : Script) (rules : Rules) (t : ℕ) (before after : Run) (task : Task) (old new : Outcome) : Type 0 where
  pub events : List Event
  pub entries : List WireEntry
  pub stands : StandsFor script rules t task after
  pub journal : after.journal ≡ followed before.journal events
  pub events_added : new.events ≡ old.events ++ events
  pub put : (b : ℕ) → b < script.tasks → map written.packet (after.wire t b) ≡ map written.packet (before.wire t b) ++ bytes_to b entries
  pub entries_added : new.entries ≡ old.entries ++ entries
  pub ends : AllByRecursion (λ (e : WireEntry). e.to < script.tasks) entries

-- what a line makes of each record that the task stood for, it stands for, with what the line adds in the outcome
abbrev pub Performs : (Script → Rules → Run → ℕ → Run) → (before after : Task) → (old new : Outcome) → Type 0
Performs line before after old new =
    (script : Script) (rules : Rules) (t : ℕ) (r : Run)
    → IsAt script rules t before r → HasEffect script rules t r (line script rules r t) after old new

-- what bytes are told as: where they spell no packet, where they fail and why, else the packet's kind
abbrev pub received_as : Result Packet Bad → Received
received_as (Ok (packets.Data p)) = received.Data
received_as (Ok (packets.Ack layout from to base bits)) = received.Ack
received_as (Err bad) = received.Refused bad
