use Rattle.std.proofs.Common.{length, ap, sym, ◌∙◌, arith, get_or, subst}
use Rattle.lapi_gen.specs.declared.form.TheConstants.{BATCHES}
use Rattle.lapi_gen.specs.Batches.{batch_of, IsBatch}
use Rattle.lapi_base.proofs.UptoLaws.{length-over, over-at}
use Rattle.lapi_gen.proofs.Drawn.{batch_bounds}
use Rattle.lapi_gen.proofs.draws.Draws.batch.Goals as goal

pub item-requires : goal.item-requires
item-requires c =
    let size = ap length c.deref.ensures.value ∙ ap length c.self.invariant.1 ∙ length-over (batch_of c.self.inside.number) BATCHES in
    omega (arith, size)

pub returns-clause-batch : goal.returns-clause-batch
returns-clause-batch c =
    c.item.ensures
    ∙ ap (λ xs. get_or xs c.args.b c.item.result) (c.deref.ensures.value ∙ c.self.invariant.1)
    ∙ over-at (batch_of c.self.inside.number) BATCHES c.args.b c.item.result c.requires
    ∙ ap (λ n. batch_of n c.args.b) c.self.view_is

pub returns-clause-bounds : goal.returns-clause-bounds
returns-clause-bounds c = subst IsBatch (sym (returns-clause-batch c)) (batch_bounds c.args.self.now c.args.b)
