-- The lanes of a schedule, as they are handed to threads.
use Rattle.std.specs.Prelude.{◌≡◌, ℕ, zero, suc, ◌+◌, ◌<◌, ◌==◌, ◌&&◌, false, cond, IsTrue, List, [], ◌∷◌, ◌++◌, length, Option, Some, None, Result, Ok, Err}
use Rattle.lapi_base.specs.declared.schedule.Act.{Act}
use Rattle.lapi_base.specs.declared.schedule.Act.TheVariants.{Step, Poll, Tick, Deliver, Cut, Inject}
use Rattle.lapi_base.specs.declared.schedule.Line.{Line}
use Rattle.lapi_base.specs.Record.Lanes.{lane_of, lane_lines, is_work_of, WorkersKeepLanes, IsFirstClash}
use Rattle.lapi_base.specs.Record.Operations.{numbers_below}
use Rattle.lapi_live.specs.declared.lane_set.OneLane.{OneLane}
use Rattle.lapi_live.specs.declared.schedule_lanes.LaneFault.{LaneFault}
use Rattle.lapi_live.specs.declared.schedule_lanes.LaneFault.TheVariants as faults
use Rattle.lapi_live.specs.declared.schedule_lanes.WorkerLane.{WorkerLane}

-- the worker of a Begin or an End
abbrev pub worker_of : Act → Option (ℕ × ℕ)
worker_of (Act.Begin t w) = Some (t, w)
worker_of (Act.End t w) = Some (t, w)
worker_of (Step t) = None
worker_of (Poll t) = None
worker_of (Tick t) = None
worker_of (Deliver a b k) = None
worker_of (Cut a b k n) = None
worker_of (Inject a b bytes) = None

-- the lines of a lane of the schedule, in order
abbrev pub lines_of_lane : List Line → (lane : ℕ) → List ℕ
lines_of_lane schedule lane = lane_lines schedule lane (numbers_below (length schedule))

-- a lane with these lines, if there are any
abbrev pub if_any : ℕ → List ℕ → List OneLane
if_any lane [] = []
if_any lane (n ∷ ns) = record { lane = lane; lines = n ∷ ns } ∷ []

-- the lanes below this one that have lines, each with its lines in order
abbrev pub lanes_below : List Line → ℕ → List OneLane
lanes_below schedule zero = []
lanes_below schedule (suc lane) = lanes_below schedule lane ++ if_any lane (lines_of_lane schedule lane)

abbrev pub lane_set : List Line → List OneLane
lane_set schedule = lanes_below schedule 16

-- a clash is told for the first line that shows it
abbrev pub ClashTold : List Line → Result (List OneLane) LaneFault → Type 0
ClashTold schedule (Ok set) = Unit {0}
ClashTold schedule (Err faults.Memory) = Unit {0}
ClashTold schedule (Err (faults.Clash task worker)) = (n : ℕ) × IsFirstClash schedule task worker n

-- the lane that is known of a worker
abbrev pub lane_known : List WorkerLane → (t w : ℕ) → Option ℕ
lane_known [] t w = None
lane_known (k ∷ ks) t w = cond (k.task == t && k.worker == w) (Some k.lane) (lane_known ks t w)

-- no line below n is of this worker; or some are, and all of these are of this lane
abbrev pub IsLaneBelow : List Line → (n t w : ℕ) → Option ℕ → Type 0
IsLaneBelow schedule n t w None = (k : ℕ) → k < n → is_work_of schedule t w k ≡ false
IsLaneBelow schedule n t w (Some lane) =
    ((k : ℕ) → k < n → IsTrue (is_work_of schedule t w k) → lane_of schedule k ≡ lane) × (k : ℕ) × (k < n) × IsTrue (is_work_of schedule t w k)

-- the lane of each worker that a line below n names is known, and all its lines below n are of it
abbrev pub AreKnown : List Line → ℕ → List WorkerLane → Type 0
AreKnown schedule n known = (t w : ℕ) → IsLaneBelow schedule n t w (lane_known known t w)

-- after line n they are known too; or line n clashes
abbrev pub Notes : List Line → ℕ → List WorkerLane → Option (ℕ × ℕ) → Type 0
Notes schedule n known None = AreKnown schedule (n + 1) known
Notes schedule n known (Some at) = IsFirstClash schedule at.0 at.1 n

-- the worker of the first line that clashes, if one does
abbrev pub TellsClash : List Line → Option (ℕ × ℕ) → Type 0
TellsClash schedule None = WorkersKeepLanes schedule
TellsClash schedule (Some at) = (n : ℕ) × IsFirstClash schedule at.0 at.1 n
