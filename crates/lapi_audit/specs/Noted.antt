-- The state of one operation, and of all: which deeds stand by it, and what an event makes of it.
use Rattle.std.specs.Prelude.{◌≡◌, ℕ, ◌<◌, Bool, true, false, ◌&&◌, List, [], length, map, replicate, slice_index_or, slice_set}
use Rattle.lapi_base.specs.declared.script.Script.{Script}
use Rattle.lapi_base.specs.declared.message.Leg.{Leg}
use Rattle.lapi_base.specs.declared.message.Leg.TheVariants.{Go, Back, Note, Echo, Join}
use Rattle.lapi_base.specs.declared.event.Event.{Event}
use Rattle.lapi_base.specs.declared.event.Event.TheVariants.{Issue, Refuse, Enter, Pass, Copy, Head, Land, Begin, End}
use Rattle.lapi_base.specs.Record.Names.{leg_eq, EventKey, Issued, Refused, Entered, Passed, Copied, Headed, Landed, Begun, Ended, key_of, happened}
use Rattle.lapi_base.specs.Record.Operations.{statements}
use Rattle.lapi_calls.specs.Places.{task_of, statement_of}
use Rattle.lapi_audit.specs.declared.operation.Transit.{Transit}
use Rattle.lapi_audit.specs.declared.operation.Operation.{Operation}

-- no event of a message stood; and none of an operation
abbrev pub still : Transit
still = record { copied = false; landed = false }

abbrev pub blank : List Transit → Operation
blank joins =
    record {
      issued = false;
      refused = false;
      entered = false;
      passed = false;
      headed = false;
      begun = false;
      ended = false;
      go = still;
      back = still;
      note = still;
      echo = still;
      joins = joins;
    }

abbrev pub fresh : Operation
fresh = blank (replicate 8 still)

-- the state of one of its messages
abbrev pub transit_of : Operation → Leg → Transit
transit_of o Go = o.go
transit_of o Back = o.back
transit_of o Note = o.note
transit_of o Echo = o.echo
transit_of o (Join d) = slice_index_or o.joins d still

abbrev pub with_transit : Operation → Leg → Transit → Operation
with_transit o Go t = record o { go = t }
with_transit o Back t = record o { back = t }
with_transit o Note t = record o { note = t }
with_transit o Echo t = record o { echo = t }
with_transit o (Join d) t = record o { joins = slice_set o.joins d t }

-- whether a key_of of the operation stands
abbrev pub noted : Operation → EventKey → Bool
noted o (Issued a i) = o.issued
noted o (Refused a i) = o.refused
noted o (Entered a i) = o.entered
noted o (Passed a i) = o.passed
noted o (Copied m) = (transit_of o m.leg).copied
noted o (Headed m) = leg_eq m.leg Go && o.headed
noted o (Landed m) = (transit_of o m.leg).landed
noted o (Begun m) = leg_eq m.leg Go && o.begun
noted o (Ended m) = leg_eq m.leg Go && o.ended

-- what an event makes of its operation
abbrev pub after : Event → Operation → Operation
after (Issue a i) o = record o { issued = true }
after (Refuse a i why) o = record o { refused = true }
after (Enter a i) o = record o { entered = true }
after (Pass a i) o = record o { passed = true }
after (Copy m) o = with_transit o m.leg (record (transit_of o m.leg) { copied = true })
after (Head m) o = record o { headed = true }
after (Land m) o = with_transit o m.leg (record (transit_of o m.leg) { landed = true })
after (Begin m t w) o = record o { begun = true }
after (End m t w) o = record o { ended = true }

-- a Join is to a task below n
abbrev pub JoinIsBelow : Leg → ℕ → Type 0
JoinIsBelow (Join d) n = d < n
JoinIsBelow _ n = Unit {0}

abbrev pub HasJoinBelow : Event → ℕ → Type 0
HasJoinBelow (Copy m) n = JoinIsBelow m.leg n
HasJoinBelow (Land m) n = JoinIsBelow m.leg n
HasJoinBelow _ n = Unit {0}

-- Tables: a list for each task, with something for each of its statements.
abbrev pub operation : List (List Operation) → ℕ → ℕ → Operation
operation table a i = slice_index_or (slice_index_or table a []) i (blank [])

abbrev pub with_operation : List (List Operation) → ℕ → ℕ → Operation → List (List Operation)
with_operation table a i o = slice_set table a (slice_set (slice_index_or table a []) i o)

-- the table with what an event makes of its operation
abbrev pub noted_in : List (List Operation) → Event → List (List Operation)
noted_in table e = with_operation table (task_of (key_of e)) (statement_of (key_of e)) (after e (operation table (task_of (key_of e)) (statement_of (key_of e))))

-- whether a key_of stands, by the states of all operations
unfoldable pub stood : List (List Operation) → EventKey → Bool
stood table d = noted (operation table (task_of d) (statement_of d)) d

-- no event of any operation stood
abbrev pub all_fresh : Script → List (List Operation)
all_fresh script = map (λ statements. replicate (length statements) fresh) script.lists

-- the operation of an event is there
abbrev pub HasOperation : List (List Operation) → Event → Type 0
HasOperation table e = (task_of (key_of e) < length table) × (statement_of (key_of e) < length (slice_index_or table (task_of (key_of e)) []))

-- the table has a state for each operation
pub record HasStates (script : Script) (table : List (List Operation)) : Type 0 where
  pub tasks : length table ≡ script.tasks
  pub lists : (a : ℕ) → a < script.tasks → length (slice_index_or table a []) ≡ length (statements script a)
  pub joins : (a i : ℕ) → a < script.tasks → i < length (statements script a) → length (operation table a i).joins ≡ 8

-- the states stand for the events so far
pub record OperationsStand (script : Script) (table : List (List Operation)) (J : List Event) : Type 0 where
  pub fits : HasStates script table
  pub deeds : (d : EventKey) → stood table d ≡ happened d J
