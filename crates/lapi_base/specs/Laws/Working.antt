-- What holds of the jobs of completion handlers, and of the workers that run them. These are words of this project for
-- its laws.
use Rattle.std.specs.Prelude.{◌≡◌, ℕ, ◌==◌, ◌<◌, ◌&&◌, Bool, true, false, List, Some}
use Rattle.std.specs.List.{AllByRecursion}
use Rattle.lapi_base.specs.declared.script.Script.{Script}
use Rattle.lapi_base.specs.declared.rule.Rules.{Rules}
use Rattle.lapi_base.specs.declared.message.MsgName.{MsgName}
use Rattle.lapi_base.specs.declared.event.Event.{Event}
use Rattle.lapi_base.specs.declared.schedule.Act.{Act}
use Rattle.lapi_base.specs.declared.schedule.Act.TheVariants.{Step, Poll, Tick, Deliver, Cut, Inject}
use Rattle.lapi_base.specs.Record.Names.{Landed, Begun, Ended, happened}
use Rattle.lapi_base.specs.Record.Jobs.{is_job, queue, runs}
use Rattle.lapi_base.specs.Record.Values.{values}
use Rattle.lapi_base.specs.Record.Wires.{Run}
use Rattle.lapi_base.specs.Record.WorldView.{performed}
use Rattle.lapi_base.specs.Laws.Headline.{Happened}

-- the act begins or ends a job at worker w of task t
abbrev pub works_at : (task worker : ℕ) → Act → Bool
works_at t w (Act.Begin u v) = u == t && v == w
works_at t w (Act.End u v) = u == t && v == w
works_at t w (Step u) = false
works_at t w (Poll u) = false
works_at t w (Tick u) = false
works_at t w (Deliver a b k) = false
works_at t w (Cut a b k n) = false
works_at t w (Inject a b bytes) = false

module _ (script : Script) (rules : Rules) where
  -- What waits at a task is a job of it that has landed and was not begun;
  abbrev pub IsWaiting : List Event → (task : ℕ) → MsgName → Type 0
  IsWaiting J t m = (is_job script rules t m ≡ true) × Happened (Landed m) J × (happened (Begun m) J ≡ false)

  abbrev pub QueuedAreWaiting : List Event → Type 0
  QueuedAreWaiting J = (t : ℕ) → AllByRecursion (IsWaiting J t) (queue script rules J t)

  -- what runs at a worker is a job of its task that was begun and has not ended.
  abbrev pub RunningWereBegun : List Event → Type 0
  RunningWereBegun J = (t w : ℕ) (m : MsgName) → runs J t w ≡ Some m →
      (is_job script rules t m ≡ true) × (w < script.workers) × Happened (Begun m) J × (happened (Ended m) J ≡ false)

  -- What runs at a worker stays through every line but a Begin or an End of that worker,
  abbrev pub WorkersStay : Run → Type 0
  WorkersStay r = (act : Act) (t w : ℕ) → works_at t w act ≡ false → runs (performed script rules r act).journal t w ≡ runs r.journal t w

  -- and the buffer of a job that was begun stays as it was held, through every line.
  abbrev pub HeldStay : Run → Type 0
  HeldStay r = (act : Act) (m : MsgName) → Happened (Begun m) r.journal →
      (values script rules (performed script rules r act).journal).held m ≡ (values script rules r.journal).held m
