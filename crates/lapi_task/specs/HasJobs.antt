-- The jobs that a task has, by its record.
use Rattle.std.specs.Prelude.{◌≡◌, ℕ, ◌<◌, ◌^◌, ◌==◌, Bool, ◌&&◌, List, map, length, slice_get, option_map, unwrap_or}
use Rattle.lapi_base.specs.declared.script.Script.{Script}
use Rattle.lapi_base.specs.declared.rule.Rules.{Rules}
use Rattle.lapi_base.specs.declared.event.Event.{Event}
use Rattle.lapi_base.specs.declared.message.MsgName.{MsgName}
use Rattle.lapi_base.specs.Record.Handlers.{buffer, completion, user}
use Rattle.lapi_base.specs.Record.Jobs.{queue, runs}
use Rattle.lapi_base.specs.Record.Operations.{statement, tgt_counter, cmpl_counter}
use Rattle.lapi_jobs.specs.declared.pending.Pending.{Pending}
use Rattle.lapi_jobs.specs.Jobs.{Works, run_by, count_running}
use Rattle.lapi_task.specs.declared.state.State.{State}

-- the job of an active message: what its header handler answered, and the counters that its statement names
abbrev pub pending : Script → Rules → MsgName → Pending
pending script rules m =
    let s = statement script m.origin m.statement in record {
      name = m;
      completion = unwrap_or (completion script rules m) 0;
      user = user script m;
      buffer = slice_get (buffer script rules m) 0;
      target_counter = tgt_counter s;
      completion_counter = cmpl_counter s;
    }

-- What waits is the queue of task t, which a number of 32 bits counts, and each worker runs what the record says of it.
pub record HasJobs (script : Script) (rules : Rules) (t : ℕ) (jobs : Works) (J : List Event) : Type 0 where
  pub waiting : jobs.waiting ≡ map (pending script rules) (queue script rules J t)
  pub few : length jobs.waiting < 2 ^ 32
  pub workers : length jobs.workers ≡ script.workers
  pub running : (w : ℕ) → w < script.workers → run_by jobs w ≡ option_map (pending script rules) (runs J t w)

-- no job waits or runs, and no data wait to be copied
abbrev pub is_free : State → Bool
is_free state = (length state.jobs.waiting == 0 && count_running state.jobs == 0) && length state.uncopied.items == 0
