-- Messages by their names, and what happened by its kind and name, whatever else an event tells. What
-- "stands in the journal" means is said here. This is the project's own.
use Rattle.std.specs.Prelude.{ℕ, ◌==◌, Bool, true, false, ◌&&◌, List}
use Rattle.std.specs.List.{list_any}
use Rattle.lapi_base.specs.declared.message.Leg.{Leg}
use Rattle.lapi_base.specs.declared.message.Leg.TheVariants.{Go, Back, Note, Echo, Join}
use Rattle.lapi_base.specs.declared.message.MsgName.{MsgName}
use Rattle.lapi_base.specs.declared.event.Event.{Event}
use Rattle.lapi_base.specs.declared.event.Event.TheVariants.{Issue, Refuse, Enter, Pass, Copy, Head, Land, Begin, End}

abbrev pub leg_eq : Leg → Leg → Bool
leg_eq Go Go = true
leg_eq Back Back = true
leg_eq Note Note = true
leg_eq Echo Echo = true
leg_eq (Join d) (Join e) = d == e
leg_eq _ _ = false

unfoldable pub name_eq : MsgName → MsgName → Bool
name_eq m n = (m.origin == n.origin && m.statement == n.statement) && leg_eq m.leg n.leg

-- the messages of operation a.i
abbrev pub message : ℕ → ℕ → Leg → MsgName
message a i leg = record { origin = a; statement = i; leg = leg }

-- an event by its kind and its name: the number of a statement, or a message
pub data EventKey : Type 0 where
  Issued Refused Entered Passed : (task statement : ℕ) → EventKey
  Copied Headed Landed Begun Ended : (name : MsgName) → EventKey

abbrev pub key_of : Event → EventKey
key_of (Issue a i) = Issued a i
key_of (Refuse a i why) = Refused a i
key_of (Enter a i) = Entered a i
key_of (Pass a i) = Passed a i
key_of (Copy m) = Copied m
key_of (Head m) = Headed m
key_of (Land m) = Landed m
key_of (Begin m t w) = Begun m
key_of (End m t w) = Ended m

abbrev pub key_eq : EventKey → EventKey → Bool
key_eq (Issued a i) (Issued b j) = a == b && i == j
key_eq (Refused a i) (Refused b j) = a == b && i == j
key_eq (Entered a i) (Entered b j) = a == b && i == j
key_eq (Passed a i) (Passed b j) = a == b && i == j
key_eq (Copied m) (Copied n) = name_eq m n
key_eq (Headed m) (Headed n) = name_eq m n
key_eq (Landed m) (Landed n) = name_eq m n
key_eq (Begun m) (Begun n) = name_eq m n
key_eq (Ended m) (Ended n) = name_eq m n
key_eq _ _ = false

-- A journal has its newest event first: in `e ∷ J`, J is what stood before e.
-- This stands in the journal
unfoldable pub happened : EventKey → List Event → Bool
happened d J = list_any (λ e. key_eq d (key_of e)) J
