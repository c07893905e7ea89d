-- What a clause reads of a shared world and of its passes.
use Rattle.std.specs.Prelude.{◌≡◌, ℕ, List, ◌∷◌, [], ◌++◌, Option, None}
use Rattle.lapi_base.specs.Record.WorldView.{WorldView}
use Rattle.lapi_handlers.specs.declared.finished.Finished.{Finished}
use Rattle.lapi_world.specs.Jobs.{EndsAt, IsEndWith}
use Rattle.lapi_turn.specs.declared.turn.Turn.{Turn}
use Rattle.lapi_turn.specs.Seats.{fixed_of, seen_of, rights_of, IsSeatOf}
use Rattle.lapi_live.specs.declared.room.Room.{Room}
use Rattle.lapi_live.specs.declared.pass.Pass.{Pass}
use Rattle.lapi_live.specs.Histories.{own_lines, GoesOn, IsShareable, SameJobs, job_after}
use Rattle.lapi_live.specs.Rooms.{plan_of_world, numbers_of, IsLined}

-- the shared world before its first line
abbrev pub plan_of : Turn Room WorldView → WorldView
plan_of turn = fixed_of (λ (r : Room). plan_of_world r.world) turn

-- the lines that the pass has seen taken, in order
abbrev pub seen_by : Pass → List ℕ
seen_by pass = numbers_of (seen_of pass.seat)

-- the lanes that it owns: bit i is lane i
abbrev pub lanes_of : Pass → ℕ
lanes_of pass = rights_of pass.seat

-- the pass is of this shared world, which can be shared
pub record IsPassOf (turn : Turn Room WorldView) (pass : Pass) : Type 0 where
  pub shareable : IsShareable (plan_of turn)
  pub seat : IsSeatOf (λ (r : Room). plan_of_world r.world) turn pass.seat
  pub lined : IsLined (plan_of turn).schedule (seen_of pass.seat)

-- the pass keeps its shared world and its lanes
abbrev pub StaysPass : Turn Room WorldView → (old new : Pass) → Type 0
StaysPass turn old new = IsPassOf turn new × (lanes_of new ≡ lanes_of old)

-- the history goes on from what the pass has seen, with no line of its lanes
abbrev pub GoesOnFrom : Turn Room WorldView → Pass → List ℕ → Type 0
GoesOnFrom turn pass history = GoesOn (plan_of turn).schedule (lanes_of pass) (seen_by pass) history

-- after a history that goes on from what the pass had seen, it has seen line n
abbrev pub TakesLine : Turn Room WorldView → (old new : Pass) → ℕ → Type 0
TakesLine turn old new n = (history : List ℕ) × GoesOnFrom turn old history × (seen_by new ≡ history ++ n ∷ [])

-- line n is an End, and this is of the job that its worker runs after what the pass has seen
abbrev pub EndsJob : Turn Room WorldView → Pass → ℕ → Option Finished → Type 0
EndsJob turn pass n finished = IsEndWith (record (plan_of turn) { taken = seen_by pass }) n finished

-- the worker of line n, an End, runs nothing after what the pass has seen
abbrev pub FreesWorker : Turn Room WorldView → Pass → ℕ → Type 0
FreesWorker turn pass n = (t w : ℕ) → EndsAt (plan_of turn).schedule n t w → job_after (plan_of turn) (seen_by pass) t w ≡ None

-- the lines of the old pass's lanes are the same in what the new one has seen; and what their workers run
abbrev pub SameOwn : Turn Room WorldView → (old new : Pass) → Type 0
SameOwn turn old new = own_lines (plan_of turn).schedule (lanes_of old) (seen_by new) ≡ own_lines (plan_of turn).schedule (lanes_of old) (seen_by old)

abbrev pub KeepsJobs : Turn Room WorldView → (old new : Pass) → Type 0
KeepsJobs turn old new = SameJobs (plan_of turn) (lanes_of old) (seen_by old) (seen_by new)
