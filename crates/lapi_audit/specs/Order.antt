-- What comes before an event in its operation, by the operation's state.
use Rattle.std.specs.Prelude.{Bool, true, ◌&&◌, ◌||◌, not, List}
use Rattle.std.specs.List.{list_all}
use Rattle.lapi_base.specs.declared.message.Leg.{Leg}
use Rattle.lapi_base.specs.declared.message.Leg.TheVariants.{Go, Back, Note, Echo, Join}
use Rattle.lapi_base.specs.declared.event.Event.{Event}
use Rattle.lapi_base.specs.declared.event.Event.TheVariants.{Copy, Head, Land, Begin, End}
use Rattle.lapi_base.specs.declared.script.Script.{Script}
use Rattle.lapi_base.specs.declared.rule.Rules.{Rules}
use Rattle.lapi_base.specs.Record.Names.{leg_eq, key_of}
use Rattle.lapi_base.specs.Record.Atomic.{needs}
use Rattle.lapi_audit.specs.declared.operation.Operation.{Operation}
use Rattle.lapi_audit.specs.Noted.{transit_of, stood}

abbrev pub may_land : Operation → Bool → Bool
may_land o is_message = o.issued && (o.go.copied && (not is_message || o.headed))

abbrev pub may_follow : Operation → (is_message completes : Bool) → Bool
may_follow o is_message completes = (not completes || (o.begun && o.ended)) && (o.go.landed && may_land o is_message)

abbrev pub may_copy : Operation → (is_message completes : Bool) → Leg → Bool
may_copy o is_message completes Go = o.issued
may_copy o is_message completes (Join d) = o.entered
may_copy o is_message completes Back = may_follow o is_message completes
may_copy o is_message completes Note = may_follow o is_message completes
may_copy o is_message completes Echo = may_follow o is_message completes

abbrev pub leg_may_land : Operation → (is_message completes : Bool) → Leg → Bool
leg_may_land o is_message completes Go = may_land o is_message
leg_may_land o is_message completes leg = (transit_of o leg).copied && may_copy o is_message completes leg

abbrev pub is_after : Operation → (is_message completes : Bool) → Event → Bool
is_after o is_message completes (Copy m) = may_copy o is_message completes m.leg
is_after o is_message completes (Head m) = o.issued && (transit_of o m.leg).copied
is_after o is_message completes (Land m) = leg_may_land o is_message completes m.leg
is_after o is_message completes (Begin m t w) = (transit_of o m.leg).landed && may_land o is_message
is_after o is_message completes (End m t w) = (not completes || (leg_eq m.leg Go && o.begun)) && ((transit_of o m.leg).landed && may_land o is_message)
is_after o is_message completes _ = true

-- all that comes before an event in its operation stands, by the states of all operations
abbrev pub all_stood : Script → Rules → List (List Operation) → Event → Bool
all_stood script rules table e = list_all (stood table) (needs script rules (key_of e))
