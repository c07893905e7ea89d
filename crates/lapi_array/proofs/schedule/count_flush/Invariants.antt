use Rattle.std.proofs.Common.{◌≡◌, ℕ, ◌<◌}
use Rattle.lapi_blocks.specs.Plans.{tasks_of}
use Rattle.lapi_array.specs.Counting.{entries_of, sweep_number, new_of, counts_at}
use Rattle.lapi_array.proofs.ScheduleCounts.{partly}
use Rattle.lapi_array.proofs.schedule.count_flush.Given as goal

abbrev pub invariant-loop-other : goal.invariant-loop-other
invariant-loop-other l = (x y : ℕ) → x < tasks_of l.plan → y < tasks_of l.plan → entries_of l.entries x y ≡ partly (counts_at l.plan l.k (sweep_number l.sweep) l.task) l.task (new_of l.plan l.k (sweep_number l.sweep) l.task) l.other x y
