use Rattle.std.proofs.Common.{◌≡◌, length}
use Rattle.lapi_calls.specs.Reaches.{stride_reaches}
use Rattle.lapi_calls.proofs.pieces.strides.Given as goal

abbrev pub invariant-loop-k : goal.invariant-loop-k
invariant-loop-k l = (l.reaches ≡ stride_reaches l.first.known l.first.at l.first.len l.stride l.k) × (length l.reaches ≡ l.k)
