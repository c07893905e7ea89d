use Rattle.std.proofs.Common.{◌≡◌, take, true}
use Rattle.lapi_base.specs.Input.Lines.{is_clean}
use Rattle.lapi_script.proofs.remarks.behind_remark.Given as goal

abbrev pub invariant-loop-place : goal.invariant-loop-place
invariant-loop-place l = is_clean (take l.place l.bytes) ≡ true
