-- What Jobs stand for: the jobs that wait, the oldest first, and what each worker runs, if it runs one.
use Rattle.std.specs.Prelude.{◌≡◌, ℕ, List, [], ◌∷◌, length, slice_index_or, slice_set, Option, Some, None, is_some, true}
use Rattle.std.specs.List.{filter}
use Rattle.lapi_jobs.specs.declared.pending.Pending.{Pending}
use Rattle.lapi_jobs.specs.declared.began.Began.{Began}
use Rattle.lapi_jobs.specs.declared.began.Began.TheVariants.{Job, Idle, Busy}

pub record Works : Type 0 where
  pub waiting : List Pending
  pub workers : List (Option Pending)

-- the job that a worker runs, if it runs one
abbrev pub run_by : Works → (worker : ℕ) → Option Pending
run_by works w = slice_index_or works.workers w None

-- how many workers run a job
abbrev pub count_running : Works → ℕ
count_running works = length (filter is_some works.workers)

-- from now on a worker runs this job, or none
abbrev pub with_run : Works → (worker : ℕ) → Option Pending → Works
with_run works w job = record works { workers = slice_set works.workers w job }

-- what comes of telling a worker to begin: it is busy where it runs a job, else the oldest job leaves the queue
-- and is run, else nothing waits
abbrev pub Begins : (old : Works) (worker : ℕ) → Began → (new : Works) → Type 0
Begins old w Busy new = (is_some (run_by old w) ≡ true) × (new ≡ old)
Begins old w Idle new = (run_by old w ≡ None) × (old.waiting ≡ []) × (new ≡ old)
Begins old w (Job job) new = (run_by old w ≡ None) × (old.waiting ≡ job ∷ new.waiting) × (new ≡ with_run (record old { waiting = new.waiting }) w (Some job))
