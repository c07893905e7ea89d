-- Lines that begin and end jobs: what a Begin hands out, and what an End is given.
use Rattle.std.specs.Prelude.{◌≡◌, ℕ, ◌+◌, ◌*◌, ◌<◌, ◌≤◌, Bool, true, false, List, length, slice_index_or, Option, Some, None}
use Rattle.lapi_base.specs.declared.layout.TheConstants.{LONGEST_ACTIVE}
use Rattle.lapi_base.specs.declared.reply.Reply.{Reply}
use Rattle.lapi_base.specs.declared.reply.Reply.TheVariants as replies
use Rattle.lapi_base.specs.declared.rule.Rules.{Rules}
use Rattle.lapi_base.specs.declared.schedule.Act.{Act}
use Rattle.lapi_base.specs.declared.schedule.Act.TheVariants.{Step, Poll, Tick, Deliver, Cut, Inject}
use Rattle.lapi_base.specs.declared.schedule.Line.{Line}
use Rattle.lapi_base.specs.declared.script.Script.{Script}
use Rattle.lapi_base.specs.Record.Handlers.{completion, user}
use Rattle.lapi_base.specs.Record.Jobs.{runs}
use Rattle.lapi_base.specs.Record.Values.{values}
use Rattle.lapi_base.specs.Record.Wires.{Run}
use Rattle.lapi_base.specs.Record.WorldView.{WorldView, act_at, view_record}
use Rattle.lapi_handlers.specs.declared.begun.Begun.{Begun}
use Rattle.lapi_handlers.specs.declared.begun.Begun.TheVariants.{Job as IsAJob, Idle, Busy}
use Rattle.lapi_handlers.specs.declared.finished.Finished.{Finished}
use Rattle.lapi_handlers.specs.declared.job.Job.{Job}
use Rattle.lapi_task.specs.Working.{IsFinished}

-- the act begins or ends a job
abbrev pub is_work : Act → Bool
is_work (Act.Begin t w) = true
is_work (Act.End t w) = true
is_work (Step t) = false
is_work (Poll t) = false
is_work (Tick t) = false
is_work (Deliver a b k) = false
is_work (Cut a b k n) = false
is_work (Inject a b bytes) = false

-- Line n is a Begin, or an End, of worker w of task t; or it is neither.
abbrev pub BeginsAt : List Line → ℕ → (t w : ℕ) → Type 0
BeginsAt schedule n t w = act_at schedule n ≡ Some (Act.Begin t w)

abbrev pub EndsAt : List Line → ℕ → (t w : ℕ) → Type 0
EndsAt schedule n t w = act_at schedule n ≡ Some (Act.End t w)

abbrev pub IsBeginLine : List Line → ℕ → Type 0
IsBeginLine schedule n = (t w : ℕ) × BeginsAt schedule n t w

abbrev pub IsPlainLine : List Line → ℕ → Type 0
IsPlainLine schedule n = (act : Act) → act_at schedule n ≡ Some act → is_work act ≡ false

-- what a Begin replies
abbrev pub begun_reply : Begun → Reply
begun_reply (IsAJob job) = replies.Did
begun_reply Idle = replies.Idle
begun_reply Busy = replies.Busy

module _ (script : Script) (rules : Rules) where
  -- The job's worker runs it, with the completion handler, the user value and the buffer that the record has. It may be
  -- given to its completion handler.
  pub record RunsJob (r : Run) (job : Job) : Type 0 where
    pub running : runs r.journal job.task job.worker ≡ Some job.name
    pub completion : completion script rules job.name ≡ Some job.completion
    pub user : job.user ≡ user script job.name
    pub buffer : job.buffer ≡ (values script rules r.journal).held job.name
    pub known : job.completion < length rules.completions
    pub short : length job.buffer ≤ LONGEST_ACTIVE

  -- nothing, where worker w of task t runs nothing; else the job that it runs, with its handler's answer
  abbrev pub IsOfWorker : (t w : ℕ) → Run → Option Finished → Type 0
  IsOfWorker t w r None = runs r.journal t w ≡ None
  IsOfWorker t w r (Some finished) = (finished.worker ≡ w) × IsFinished script rules t r finished

-- a job was handed out by the Begin of its worker, which runs it now
abbrev pub HandsOut : WorldView → ℕ → Begun → Type 0
HandsOut w n (IsAJob job) = BeginsAt w.schedule n job.task job.worker × RunsJob w.script w.rules (view_record w) job
HandsOut w n Idle = Unit {0}
HandsOut w n Busy = Unit {0}

-- line n is an End, and this is of what its worker runs
abbrev pub IsEndWith : WorldView → ℕ → Option Finished → Type 0
IsEndWith w n finished = (t worker : ℕ) × EndsAt w.schedule n t worker × IsOfWorker w.script w.rules t worker (view_record w) finished

-- Of each worker there may be, this is kept: of worker w of task t at place 4 * t + w.
pub record AreKept (w : WorldView) (jobs : List (Option Finished)) : Type 0 where
  pub count : length jobs ≡ 32
  pub each : (t worker : ℕ) → t < 8 → worker < 4 → IsOfWorker w.script w.rules t worker (view_record w) (slice_index_or jobs (t * 4 + worker) None)
