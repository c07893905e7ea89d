-- The part of an operation's patch in one block.
use Rattle.std.specs.Prelude.{◌≡◌, ℕ, ◌<◌, true, slice_get, Some}
use Rattle.lapi_blocks.specs.declared.patch.Patch.{Patch}
use Rattle.lapi_blocks.specs.declared.plan.Op.{Op}
use Rattle.lapi_blocks.specs.declared.plan.Plan.{Plan}
use Rattle.lapi_blocks.specs.Plans.{ValidPlan, patch_of, tasks_of, part_of, is_nonempty}

-- it is operation k of a valid plan
pub record IsOp (plan : Plan) (k : ℕ) (op : Op) : Type 0 where
  pub valid : ValidPlan plan
  pub there : slice_get plan.ops k ≡ Some op

-- and this is the part of its patch that lies in the block of a task that owns some of it
pub record IsPart (plan : Plan) (k : ℕ) (op : Op) (part : Patch) : Type 0 where
  pub is_op : IsOp plan k op
  pub task : part.task < tasks_of plan
  pub same : part ≡ part_of plan (patch_of op) part.task
  pub some : is_nonempty part ≡ true
