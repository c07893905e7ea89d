use Rattle.std.proofs.Common.{◌≡◌, length}
use Rattle.lapi_base.specs.Input.Lines.{words_of}
use Rattle.lapi_script.proofs.words.behind_spaces.Given as goal

abbrev pub invariant-loop-byte : goal.invariant-loop-byte
invariant-loop-byte l = words_of l.rest ≡ words_of l.bytes

abbrev pub decreases-loop-byte : goal.decreases-loop-byte
decreases-loop-byte l = length l.rest
