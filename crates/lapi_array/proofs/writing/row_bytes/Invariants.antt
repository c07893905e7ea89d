use Rattle.std.proofs.Common.{◌≡◌, ◌*◌, length}
use Rattle.lapi_blocks.specs.Plans.{plain}
use Rattle.lapi_array.specs.ArrayText.{row_bytes}
use Rattle.lapi_array.proofs.writing.row_bytes.Given as goal

abbrev pub invariant-loop-col : goal.invariant-loop-col
invariant-loop-col l = l.bytes.items ≡ row_bytes (plain l.plan.ops (length l.plan.ops)) (l.col * l.plan.width) l.row
