use Rattle.std.proofs.Common.{◌≡◌, length}
use Rattle.std.specs.List.{fold}
use Rattle.lapi_capture.specs.Steps.{byte}
use Rattle.lapi_capture.proofs.reader.Reader.feed.Given as goal

abbrev pub invariant-loop-left : goal.invariant-loop-left
invariant-loop-left l = fold byte l.self l.left ≡ fold byte l.fn.self l.piece

abbrev pub decreases-loop-left : goal.decreases-loop-left
decreases-loop-left l = length l.left
