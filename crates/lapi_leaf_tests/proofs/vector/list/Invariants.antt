use Rattle.std.proofs.Common.{◌≡◌, length}
use Rattle.lapi_leaf_tests.proofs.vector.list.Given as goal

abbrev pub invariant-loop-at : goal.invariant-loop-at
invariant-loop-at l = length l.spans ≡ l.at-index
