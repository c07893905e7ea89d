-- How many entries the wires have where a plan's schedule has come to, and the lines that it writes next.
use Rattle.std.specs.Prelude.{◌≡◌, ℕ, ◌+◌, ◌*◌, ◌<◌, ◌≤◌, List, length, slice_get, slice_index}
use Rattle.lapi_base.specs.declared.schedule.Act.{Act}
use Rattle.lapi_flush.specs.Counted.{Counts, counted_flush, swept_counts, sweeps_counts, sweep_lines, counted_round}
use Rattle.lapi_blocks.specs.declared.plan.Plan.{Plan}
use Rattle.lapi_blocks.specs.Plans.{ValidPlan, tasks_of, op_statements}
use Rattle.lapi_blocks.specs.PlanCounts.{added, plan_counts}
use Rattle.lapi_array.specs.declared.entries.Entries.{Entries}
use Rattle.lapi_array.specs.declared.sweep.Sweep.{Sweep}
use Rattle.lapi_array.specs.declared.sweep.Sweep.TheVariants.{Calls, Answers, Fences, Rest}

abbrev pub entries_of : Entries → Counts
entries_of e x y = slice_index e.items (8 * x + y)

-- a sweep by its number in its round
abbrev pub sweep_number : Sweep → ℕ
sweep_number Calls = 0
sweep_number Answers = 1
sweep_number Fences = 2
sweep_number Rest = 3

-- how many numbers the Polls of operation k's sweeps add
abbrev pub new_of : Plan → (k s from to : ℕ) → ℕ
new_of plan k = added plan (slice_get plan.ops k)

-- the counts before the flush of task t in sweep s of round k
unfoldable pub counts_at : Plan → (k s t : ℕ) → Counts
counts_at plan k s t = swept_counts (sweeps_counts (tasks_of plan) (plan_counts plan k) (new_of plan k) s) (new_of plan k s) t

-- the entries are as many
abbrev pub Stand : Plan → (k s t : ℕ) → Counts → Type 0
Stand plan k s t counts = (x y : ℕ) → x < tasks_of plan → y < tasks_of plan → counts x y ≡ counts_at plan k s t x y

-- a place in a valid plan's rounds, and the entries there
pub record IsAt (plan : Plan) (k s t : ℕ) (counts : Counts) : Type 0 where
  pub valid : ValidPlan plan
  pub round : k < length plan.ops
  pub sweep : s ≤ 4
  pub task : t ≤ tasks_of plan
  pub stand : Stand plan k s t counts

-- the lines of the flush there, those of sweep s, and those of round k
unfoldable pub flush_lines : Plan → (k s t : ℕ) → List Act
flush_lines plan k s t = counted_flush (tasks_of plan) (counts_at plan k s t) t (new_of plan k s t)

unfoldable pub lines_of_sweep : Plan → (k s : ℕ) → List Act
lines_of_sweep plan k s = sweep_lines (tasks_of plan) (plan_counts plan k) (new_of plan k) s

unfoldable pub calls_of : Plan → (k a : ℕ) → ℕ
calls_of plan k a = length (op_statements plan k (slice_get plan.ops k) a)

unfoldable pub lines_of_round : Plan → (k : ℕ) → List Act
lines_of_round plan k = counted_round (tasks_of plan) (plan_counts plan k) (calls_of plan k) (new_of plan k)
