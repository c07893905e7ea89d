use Rattle.std.proofs.Common.{◌≡◌, take}
use Rattle.lapi_base.specs.Input.Lines.{is_clean}
use Rattle.lapi_script.proofs.scan.is_clean_block.Given as goal

abbrev pub invariant-loop-b : goal.invariant-loop-b
invariant-loop-b l = l.clean ≡ is_clean (take l.b-index l.block)
