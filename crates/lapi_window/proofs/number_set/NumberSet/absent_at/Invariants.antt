use Rattle.std.proofs.Common.{◌≡◌, ◌+◌, ◌-◌, ◌≤◌, not, length}
use Rattle.lapi_base.specs.Record.Below.{below}
use Rattle.lapi_window.specs.NumberSet.{is_in}
use Rattle.lapi_window.proofs.number_set.NumberSet.absent_at.Given as goal

abbrev pub invariant-loop-left : goal.invariant-loop-left
invariant-loop-left l = record {
  within : l.number ≤ l.end;
  count : length (below l.number (λ n. not (is_in l.fn.self n))) + l.left ≡ l.index;
}

abbrev pub decreases-loop-left : goal.decreases-loop-left
decreases-loop-left l = l.end - l.number
