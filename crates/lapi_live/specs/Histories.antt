-- Lists of schedule lines as threads take them: whose lines they are, and which jobs run.
use Rattle.std.specs.Prelude.{◌≡◌, ℕ, ◌==◌, false, List, [], ◌∷◌, ◌++◌, filter, Option, Some, None, Result, Ok, Err, IsTrue}
use Rattle.std.specs.Int.{bit_at}
use Rattle.std.specs.List.{AllByRecursion}
use Rattle.lapi_base.specs.declared.message.MsgName.{MsgName}
use Rattle.lapi_base.specs.declared.reply.Reply.{Reply}
use Rattle.lapi_base.specs.declared.schedule.Line.{Line}
use Rattle.lapi_base.specs.Packet.Spelling.{spells_packet}
use Rattle.lapi_base.specs.Record.Jobs.{runs}
use Rattle.lapi_base.specs.Record.Lanes.{lane_of, is_work_of, WorkersKeepLanes}
use Rattle.lapi_base.specs.Record.Valid.{ValidScript, ValidSchedule}
use Rattle.lapi_base.specs.Record.Values.{values}
use Rattle.lapi_base.specs.Record.Wires.{Run}
use Rattle.lapi_base.specs.Record.WorldView.{WorldView, view_record}
use Rattle.lapi_handlers.specs.declared.begun.Begun.{Begun}
use Rattle.lapi_handlers.specs.declared.begun.Begun.TheVariants.{Job as IsAJob, Idle, Busy}
use Rattle.lapi_handlers.specs.declared.finished.Finished.{Finished}
use Rattle.lapi_world.specs.Jobs.{IsOfWorker}

module _ (schedule : List Line) where
  -- Lanes are the bits of a number: bit i is lane i. Line n is of one of these lanes, or of none.
  abbrev pub IsOwn : (lanes n : ℕ) → Type 0
  IsOwn lanes n = bit_at lanes (lane_of schedule n) ≡ 1

  abbrev pub IsForeign : (lanes n : ℕ) → Type 0
  IsForeign lanes n = bit_at lanes (lane_of schedule n) ≡ 0

  -- the lines of these lanes, in order
  abbrev pub own_lines : (lanes : ℕ) → List ℕ → List ℕ
  own_lines lanes lines = filter (λ n. bit_at lanes (lane_of schedule n) == 1) lines

  -- the history begins with what was seen, and no line after that is of these lanes
  abbrev pub GoesOn : (lanes : ℕ) → (seen history : List ℕ) → Type 0
  GoesOn lanes seen history = (rest : List ℕ) × (history ≡ seen ++ rest) × AllByRecursion (IsForeign lanes) rest

  -- on Ok the own lines have line n once more, and on Err they are as before
  abbrev pub OwnAfter : {A E : Type 0} → Result A E → (lanes : ℕ) → (old new : List ℕ) → ℕ → Type 0
  OwnAfter (Ok a) lanes old new n = own_lines lanes new ≡ own_lines lanes old ++ n ∷ []
  OwnAfter (Err e) lanes old new n = own_lines lanes new ≡ own_lines lanes old

  -- all lines of the worker are of these lanes
  abbrev pub HasWorker : (lanes t w : ℕ) → Type 0
  HasWorker lanes t w = (n : ℕ) → IsTrue (is_work_of schedule t w n) → IsOwn lanes n

-- A plan is a world before its first line. What a plan needs to be shared:
pub record IsShareable (plan : WorldView) : Type 0 where
  pub script_valid : ValidScript plan.script
  pub valid : ValidSchedule plan.script spells_packet plan.schedule
  pub apart : WorkersKeepLanes plan.schedule

module _ (plan : WorldView) where
  -- the plan's record after these lines
  abbrev pub record_after : List ℕ → Run
  record_after lines = view_record (record plan { taken = lines })

  -- the job that the worker runs after these lines
  abbrev pub job_after : List ℕ → (t w : ℕ) → Option MsgName
  job_after lines t w = runs (record_after lines).journal t w

  -- the message's buffer then
  abbrev pub buffer_after : List ℕ → MsgName → List ℕ
  buffer_after lines m = (values plan.script plan.rules (record_after lines).journal).held m

  -- this is the last reply
  abbrev pub LastReply : List ℕ → Reply → Type 0
  LastReply lines reply = (front : List Reply) × ((record_after lines).replies ≡ front ++ reply ∷ [])

  -- this is of the job that the worker runs after these lines
  abbrev pub IsOfWorkerAfter : List ℕ → (t w : ℕ) → Option Finished → Type 0
  IsOfWorkerAfter lines t w finished = IsOfWorker plan.script plan.rules t w (record_after lines) finished

  -- the worker runs the same job after these and after those lines, and was given the same buffer for it
  abbrev pub SameJob : (old new : List ℕ) → (t w : ℕ) → Type 0
  SameJob old new t w =
      (job_after new t w ≡ job_after old t w) × ((m : MsgName) → job_after old t w ≡ Some m → buffer_after new m ≡ buffer_after old m)

  -- so do all workers of these lanes; so do all but the worker of line n
  abbrev pub SameJobs : (lanes : ℕ) → (old new : List ℕ) → Type 0
  SameJobs lanes old new = (t w : ℕ) → HasWorker plan.schedule lanes t w → SameJob old new t w

  abbrev pub SameOtherJobs : (lanes n : ℕ) → (old new : List ℕ) → Type 0
  SameOtherJobs lanes n old new = (t w : ℕ) → HasWorker plan.schedule lanes t w → is_work_of plan.schedule t w n ≡ false → SameJob old new t w

  -- no worker of these lanes runs a job
  abbrev pub NoJobs : (lanes : ℕ) → List ℕ → Type 0
  NoJobs lanes lines = (t w : ℕ) → HasWorker plan.schedule lanes t w → job_after lines t w ≡ None

-- it is no job
abbrev pub IsNoJob : Begun → Type 0
IsNoJob (IsAJob job) = ⊥
IsNoJob Idle = Unit {0}
IsNoJob Busy = Unit {0}
