-- The part of a record at one task: what happened there, what it put on its wires and what was handed to it. All that
-- a task does next, it does by its part. These are words of this project.
use Rattle.std.specs.Prelude.{ℕ, ◌==◌, Bool, List, filter}
use Rattle.lapi_base.specs.declared.script.Script.{Script}
use Rattle.lapi_base.specs.declared.event.Event.{Event}
use Rattle.lapi_base.specs.declared.event.Event.TheVariants.{Issue, Refuse, Enter, Pass, Copy, Head, Land, Begin, End}
use Rattle.lapi_base.specs.declared.schedule.Act.{Act}
use Rattle.lapi_base.specs.declared.schedule.Act.TheVariants.{Step, Poll, Tick, Deliver, Cut, Inject}
use Rattle.lapi_base.specs.declared.packet.Packet.{Packet}
use Rattle.lapi_base.specs.Record.Names.{EventKey, Issued, Refused, Entered, Passed, Copied, Headed, Landed, Begun, Ended}
use Rattle.lapi_base.specs.Record.Operations.{sender, receiver}
use Rattle.lapi_base.specs.Record.Wires.{Run}

-- the task at which an act is
abbrev pub actor : Act → ℕ
actor (Step t) = t
actor (Poll t) = t
actor (Tick t) = t
actor (Deliver a b k) = b
actor (Cut a b k n) = b
actor (Inject a b bytes) = b
actor (Act.Begin t w) = t
actor (Act.End t w) = t

-- The events at the task, the newest first; the entries that it put on the wire to each task, in order; what was handed to it from each task, the latest first; and whether it owes an acknowledgement of that.
pub record Part : Type 0 where
  pub events : List Event
  pub put : (to : ℕ) → List Packet
  pub handed : (from : ℕ) → List Packet
  pub owed : (from : ℕ) → Bool

module _ (script : Script) where
  -- the task whose event it is: a Copy is the sender's, a Head and a Land the receiver's
  abbrev pub place_of : Event → ℕ
  place_of (Issue a i) = a
  place_of (Refuse a i why) = a
  place_of (Enter a i) = a
  place_of (Pass a i) = a
  place_of (Copy m) = sender script m
  place_of (Head m) = receiver script m
  place_of (Land m) = receiver script m
  place_of (Begin m t w) = t
  place_of (End m t w) = t

  -- and the same of what happened, by its kind and name
  abbrev pub place_of_key : EventKey → ℕ
  place_of_key (Issued a i) = a
  place_of_key (Refused a i) = a
  place_of_key (Entered a i) = a
  place_of_key (Passed a i) = a
  place_of_key (Copied m) = sender script m
  place_of_key (Headed m) = receiver script m
  place_of_key (Landed m) = receiver script m
  place_of_key (Begun m) = receiver script m
  place_of_key (Ended m) = receiver script m

  abbrev pub is_at : ℕ → Event → Bool
  is_at t e = place_of e == t

  unfoldable pub events_at : ℕ → List Event → List Event
  events_at t J = filter (is_at t) J

  unfoldable pub part_at : ℕ → Run → Part
  part_at t r = record { events = events_at t r.journal; put = λ b. r.wire t b; handed = λ a. r.handed a t; owed = λ a. r.owed a t }
