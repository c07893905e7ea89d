use Rattle.std.proofs.Common.{◌≡◌, length}
use Rattle.lapi_base.specs.Input.Lines.{is_clean}
use Rattle.lapi_script.proofs.scan.is_clean.Given as goal

abbrev pub invariant-loop-rest : goal.invariant-loop-rest
invariant-loop-rest l = is_clean l.line ≡ is_clean l.rest

abbrev pub decreases-loop-rest : goal.decreases-loop-rest
decreases-loop-rest l = length l.rest
