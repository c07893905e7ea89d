use Rattle.std.proofs.Common.{◌≡◌, length}
use Rattle.lapi_leaf_tests.proofs.counters.a_wait_takes_its_value.Given as goal

abbrev pub invariant-loop-value : goal.invariant-loop-value
invariant-loop-value g l = length l.counters ≡ 2
