use Rattle.std.proofs.Common.{◌≡◌, subst}
use Rattle.lapi_blocks.specs.declared.patch.Patch.{Patch}
use Rattle.lapi_array.proofs.Listed.{at_own}
use Rattle.lapi_array.proofs.compiling.op_statements.Goals as goal

pub returns : goal.returns
returns c =
    at_own c.args.plan.now c.args.k c.op_at-op.result.now c.args.task c.args.list.now c.store.new.list c.transfers.new.list c.op_at-op.ensures
    (subst (λ (p : Patch). p.task ≡ c.args.task) c.patch.ensures c.if-patch-task.false)
    c.in_ok-store.ensures c.in_ok-transfers.ensures
