use Rattle.std.proofs.Common.{arith}
use Rattle.std.specs.Prelude.{◌==◌}
use Rattle.lapi_script.proofs.Blocks.{near_some, near_none, behind_some, behind_none}
use Rattle.lapi_script.proofs.scan.place_of.Goals as goal

pub returns-in-Some : goal.returns-in-Some
returns-in-Some c = near_some (λ b. b == c.args.byte) 16 c.in-Some.place c.args.bytes.now (rw c.split_at.ensures.front at c.in-Some.ensures)

pub returns-in-None-place_far : goal.returns-in-None-place_far
returns-in-None-place_far c =
    let near = near_none (λ b. b == c.args.byte) 16 c.args.bytes.now (omega arith) (rw c.split_at.ensures.front at c.in-None.ensures) in
    behind_none 16 _ _ (rw c.split_at.ensures.back at c.in-None-place_far.ensures) near

pub returns-in-Some-place_far : goal.returns-in-Some-place_far
returns-in-Some-place_far c =
    let near = near_none (λ b. b == c.args.byte) 16 c.args.bytes.now (omega arith) (rw c.split_at.ensures.front at c.in-None.ensures) in
    behind_some 16 c.in-Some-place_far.place _ _ (rw c.split_at.ensures.back at c.in-Some-place_far.ensures) near
