use Rattle.std.proofs.Common.{◌≡◌, length}
use Rattle.lapi_base.specs.Input.Lines.{words_of}
use Rattle.lapi_script.proofs.scan.behind_blank_blocks.Given as goal

abbrev pub invariant-loop-rest : goal.invariant-loop-rest
invariant-loop-rest l = words_of l.rest ≡ words_of l.bytes

abbrev pub decreases-loop-rest : goal.decreases-loop-rest
decreases-loop-rest l = length l.rest
