use Rattle.std.proofs.Common.{◌-◌, ◌+◌, ◌≤◌, sym, subst, arith}
use Rattle.lapi_blocks.specs.declared.patch.Patch.{Patch}
use Rattle.lapi_blocks.specs.Plans.{byte_at, area}
use Rattle.lapi_array.proofs.PartPlaces.{op_few, cols_few, area_place}
use Rattle.lapi_array.proofs.part.area_side.Goals as goal

pub place-base-requires : goal.place-base-requires
place-base-requires c =
    let place = area_place c.args.plan.now c.args.k c.args.op.now c.args.part.now c.requires in
    subst (λ (w : Patch). byte_at w.cols (c.args.part.now.row - w.row) (c.args.part.now.col - w.col) 0 ≤ 65536) (sym c.patch-whole.ensures) (omega (arith, place))

pub area-requires : goal.area-requires
area-requires c = op_few c.args.plan.now c.args.k c.args.op.now c.requires.is_op

pub overflow_add-result : goal.overflow_add-result
overflow_add-result c =
    let place = subst (λ (w : Patch). area c.args.k + byte_at w.cols (c.args.part.now.row - w.row) (c.args.part.now.col - w.col) 0 ≤ 65536) (sym c.patch-whole.ensures)
    (area_place c.args.plan.now c.args.k c.args.op.now c.args.part.now c.requires) in
    omega (arith, place, c.area.ensures, c.place-base.ensures)

pub overflow_mul-result-2 : goal.overflow_mul-result-2
overflow_mul-result-2 c =
    let few = subst (λ (w : Patch). w.cols ≤ 256) (sym c.patch-whole.ensures) (cols_few c.args.plan.now c.args.k c.args.op.now c.requires.is_op) in
    omega (arith, few)
