-- Lanes that run their lines, each with a pass of its own.
use Rattle.std.specs.Prelude.{◌≡◌, ℕ, ◌+◌, ◌*◌, ◌^◌, ◌<◌, ◌==◌, cond, List, [], ◌∷◌, ◌++◌, length, bit_xor, slice_index_or, Option, None}
use Rattle.std.specs.List.{AllByRecursion}
use Rattle.lapi_base.specs.declared.schedule.Line.{Line}
use Rattle.lapi_base.specs.Record.Lanes.{lane_of, lane_lines}
use Rattle.lapi_base.specs.Record.WorldView.{WorldView}
use Rattle.lapi_handlers.specs.declared.finished.Finished.{Finished}
use Rattle.lapi_turn.specs.declared.turn.Turn.{Turn}
use Rattle.lapi_turn.specs.Entries.{HasRight}
use Rattle.lapi_live.specs.declared.kinds.Kind.{Kind}
use Rattle.lapi_live.specs.declared.lane_set.OneLane.{OneLane}
use Rattle.lapi_live.specs.declared.pass.Pass.{Pass}
use Rattle.lapi_live.specs.declared.room.Room.{Room}
use Rattle.lapi_live.specs.Histories.{HasWorker, NoJobs, IsOfWorkerAfter}
use Rattle.lapi_live.specs.Kinds.{kinds_of}
use Rattle.lapi_live.specs.Passes.{plan_of, seen_by, lanes_of, IsPassOf, StaysPass}

-- Of each worker of these lanes, this is kept of the job that it runs after these lines: that of worker w of task t at
-- place 4 * t + w.
pub record AreHeld (plan : WorldView) (lanes : ℕ) (lines : List ℕ) (jobs : List (Option Finished)) : Type 0 where
  pub count : length jobs ≡ 32
  pub each : (t w : ℕ) → t < 8 → w < 4 → HasWorker plan.schedule lanes t w → IsOfWorkerAfter plan lines t w (slice_index_or jobs (t * 4 + w) None)

-- line n is one of the schedule, and of this lane
abbrev pub IsLineOf : List Line → (lane n : ℕ) → Type 0
IsLineOf schedule lane n = (n < length schedule) × (lane_of schedule n ≡ lane)

-- these lanes are owned, each once, and have lines of their own
abbrev pub AreOwn : List Line → (lanes : ℕ) → List OneLane → Type 0
AreOwn schedule lanes [] = Unit {0}
AreOwn schedule lanes (one ∷ set) = HasRight lanes one.lane × (one.lane < 16) × AllByRecursion (IsLineOf schedule one.lane) one.lines × AreOwn schedule (bit_xor lanes (2 ^ one.lane)) set

-- the lines of a lane in a set
abbrev pub lines_at : List OneLane → (lane : ℕ) → List ℕ
lines_at [] lane = []
lines_at (one ∷ set) lane = cond (one.lane == lane) one.lines (lines_at set lane)

-- a pass may run these lanes
pub record MayRun (turn : Turn Room WorldView) (kinds : List Kind) (pass : Pass) (set : List OneLane) : Type 0 where
  pub kinds_are : kinds ≡ kinds_of (plan_of turn).schedule
  pub pass_of : IsPassOf turn pass
  pub own : AreOwn (plan_of turn).schedule (lanes_of pass) set
  pub idle : NoJobs (plan_of turn) (lanes_of pass) (seen_by pass)

-- the lanes ran: of each lane of the pass it has seen the lines as before, and then those of the set
pub record HasRun (turn : Turn Room WorldView) (set : List OneLane) (old new : Pass) : Type 0 where
  pub stays : StaysPass turn old new
  pub lines : (lane : ℕ) → HasRight (lanes_of old) lane → lane_lines (plan_of turn).schedule lane (seen_by new) ≡ lane_lines (plan_of turn).schedule lane (seen_by old) ++ lines_at set lane
