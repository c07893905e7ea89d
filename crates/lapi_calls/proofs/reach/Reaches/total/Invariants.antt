use Rattle.std.proofs.Common.{◌≡◌, ◌≤◌, ◌*◌, take}
use Rattle.lapi_calls.specs.Reaches as reaches
use Rattle.lapi_calls.proofs.reach.Reaches.total.Given as goal

abbrev pub invariant-loop-reach : goal.invariant-loop-reach
invariant-loop-reach l = (l.total ≡ reaches.total_of (take l.reach-index l.reach-items)) × (l.total ≤ 4294967295 * l.reach-index)
