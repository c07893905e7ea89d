use Rattle.std.proofs.Common.{◌≡◌, ◌++◌, ◌∷◌}
use Rattle.lapi_base.specs.declared.schedule.Act.TheVariants.{Poll}
use Rattle.lapi_flush.specs.Counted.{counted_links}
use Rattle.lapi_array.specs.Counting.{sweep_number, new_of, counts_at}
use Rattle.lapi_array.proofs.schedule.flush.Given as goal

abbrev pub invariant-loop-other : goal.invariant-loop-other
invariant-loop-other l = l.lines ≡ l.fn.lines ++ (Poll l.task ∷ counted_links (counts_at l.plan l.k (sweep_number l.sweep) l.task) l.task (new_of l.plan l.k (sweep_number l.sweep) l.task) l.other)
