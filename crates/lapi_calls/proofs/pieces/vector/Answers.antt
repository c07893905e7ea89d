use Rattle.std.proofs.Common.{map, sym, ap, ◌∙◌}
use Rattle.lapi_base.specs.Record.Operations.{pieces_of}
use Rattle.lapi_calls.specs.declared.reach.Reach.{Reach}
use Rattle.lapi_calls.specs.Reaches.{reach_of, stride_reaches}
use Rattle.lapi_calls.proofs.ReasonLaws.{strides-are}
use Rattle.lapi_calls.proofs.pieces.vector.Goals as goal

pub returns-in-Stride : goal.returns-in-Stride
returns-in-Stride g c =
    let known = g.E.Entries.is_known c.args.entries.now in
    let given = g.E.Entries.given c.args.entries.now in
    c.strides.ensures
    ∙ ap (λ (r : Reach). stride_reaches r.known r.at r.len c.in-Stride.stride c.in-Stride.count) c.reach-first.ensures.reach
    ∙ strides-are known given c.args.d c.in-Stride.base c.in-Stride.block c.in-Stride.stride c.in-Stride.count
    ∙ ap (λ v. map (reach_of known given c.args.d) (pieces_of v)) (sym c.in-Stride.is)
