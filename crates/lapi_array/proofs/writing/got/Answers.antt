use Rattle.std.proofs.Common.{◌+◌, ◌*◌, ◌≤◌, ◌<◌, sym, subst, arith}
use Rattle.lapi_blocks.specs.declared.patch.Patch.{Patch}
use Rattle.lapi_blocks.specs.Plans.{area, tasks_of}
use Rattle.lapi_array.proofs.PartPlaces.{op_lies, area_fits}
use Rattle.lapi_array.proofs.MemoriesLeft.{has_bytes, got_bytes}
use Rattle.lapi_array.proofs.writing.got.Goals as goal

pub bytes_at-requires : goal.bytes_at-requires
bytes_at-requires c =
    let plan = c.args.plan.now in
    let is = c.requires.op in
    let task = subst (λ (p : Patch). p.task < tasks_of plan) (sym c.patch-patch.ensures) (op_lies plan c.args.k c.args.op.now is).task in
    let fits = subst (λ (p : Patch). area c.args.k + 4 * (p.rows * p.cols) ≤ 65536) (sym c.patch-patch.ensures) (area_fits plan c.args.k c.args.op.now is) in
    has_bytes plan is.valid c.args.memories.now c.requires.memories c.patch-patch.result.task (c.area.result + 4 * (c.patch-patch.result.rows * c.patch-patch.result.cols)) task
    (omega (arith, fits, c.area.ensures))

pub returns : goal.returns
returns c =
    got_bytes c.args.plan.now c.requires.op.valid c.args.memories.now c.requires.memories c.args.k c.args.op.now c.patch-patch.result c.area.result c.bytes_at.result.now c.requires.op c.patch-patch.ensures c.area.ensures c.bytes_at.ensures
