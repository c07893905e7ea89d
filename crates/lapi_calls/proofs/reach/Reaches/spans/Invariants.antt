use Rattle.std.proofs.Common.{◌≡◌, length, take}
use Rattle.lapi_calls.specs.Reaches as reaches
use Rattle.lapi_calls.proofs.reach.Reaches.spans.Given as goal

abbrev pub invariant-loop-reach : goal.invariant-loop-reach
invariant-loop-reach l = (l.spans ≡ reaches.spans_of (take l.reach-index l.reach-items)) × (length l.spans ≡ l.reach-index)
