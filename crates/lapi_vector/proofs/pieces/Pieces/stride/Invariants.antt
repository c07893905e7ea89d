use Rattle.std.proofs.Common.{◌≡◌, length}
use Rattle.lapi_vector.specs.Pieces.{stride_spans}
use Rattle.lapi_vector.proofs.pieces.Pieces.stride.Given as goal

abbrev pub invariant-loop-i : goal.invariant-loop-i
invariant-loop-i l = (l.spans ≡ stride_spans l.base l.block l.stride l.i) × (length l.spans ≡ l.i)
