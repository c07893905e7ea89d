use Rattle.std.proofs.Common.{◌+◌, ◌*◌, length, take, drop, ap, ◌∙◌, arith}
use Rattle.lapi_base.proofs.Results.{if-ok}
use Rattle.lapi_base.proofs.UptoLaws.{length-over}
use Rattle.lapi_gen.specs.declared.form.TheConstants.{STORES, STORED, BYTE}
use Rattle.lapi_gen.specs.Draws.{pick}
use Rattle.lapi_gen.specs.Batches.{first_draw}
use Rattle.lapi_gen.specs.Scripts.{stored}
use Rattle.lapi_gen.proofs.Numbered.{stretch}
use Rattle.lapi_gen.proofs.draws.Draws.stored.Goals as goal

pub part-requires : goal.part-requires
part-requires c =
    let size = ap length c.deref.ensures.value ∙ ap length c.self.invariant.0 ∙ length-over (λ i. pick c.self.inside.number i BYTE) (first_draw 0) in
    omega (arith, size, c.requires.0, c.requires.1)

pub returns : goal.returns
unfolding stored
returns c =
    if-ok _ _ c.from_slice.result
    (λ bytes e.
    e
    ∙ c.part.ensures
    ∙ ap (λ xs. take STORED (drop (STORED * (STORES * c.args.a + c.args.i)) xs)) (c.deref.ensures.value ∙ c.self.invariant.0)
    ∙ stretch (λ i. pick c.self.inside.number i BYTE) (first_draw 0) (STORED * (STORES * c.args.a + c.args.i)) STORED (omega (arith, c.requires.0, c.requires.1))
    ∙ ap (λ n. stored n c.args.a c.args.i) c.self.view_is)
    c.from_slice.ensures
