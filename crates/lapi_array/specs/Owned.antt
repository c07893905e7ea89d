-- The statements of an operation on the parts in the blocks of the first tasks.
use Rattle.std.specs.Prelude.{ℕ, List, map}
use Rattle.lapi_base.specs.declared.statement.Statement.{Statement}
use Rattle.lapi_base.specs.Record.Below.{below}
use Rattle.lapi_blocks.specs.declared.plan.Op.{Op}
use Rattle.lapi_blocks.specs.declared.plan.Plan.{Plan}
use Rattle.lapi_blocks.specs.Plans.{patch_of, part_of, is_nonempty, moves}

unfoldable pub moves_below : Plan → (k : ℕ) → Op → (n : ℕ) → List Statement
moves_below plan k op n =
    map (λ t. moves plan k op (part_of plan (patch_of op) t)) (below n (λ t. is_nonempty (part_of plan (patch_of op) t)))
