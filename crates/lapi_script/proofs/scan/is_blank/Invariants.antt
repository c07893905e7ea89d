use Rattle.std.proofs.Common.{◌≡◌, ◌==◌, take}
use Rattle.std.specs.List.{list_all}
use Rattle.lapi_script.proofs.scan.is_blank.Given as goal

abbrev pub invariant-loop-b : goal.invariant-loop-b
invariant-loop-b l = l.blank ≡ list_all (λ b. b == 32) (take l.b-index l.block)
