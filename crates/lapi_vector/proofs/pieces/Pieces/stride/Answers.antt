use Rattle.std.proofs.Common.{rules, ◌≡◌, ◌+◌, ◌*◌, ◌∷◌, ◌++◌, [], length, refl, sym, ap, ◌∙◌}
use Rattle.std.proofs.lemmas.List.{length_push}
use Rattle.lapi_vector.specs.Pieces.{stride_spans}
use Rattle.lapi_vector.proofs.Strides.{no_block, one_block_more, as_vector}
use Rattle.lapi_vector.proofs.pieces.Pieces.stride.Goals as goal

pub loop-i-init : goal.loop-i-init
loop-i-init c = (c.new-spans.ensures ∙ sym (no_block c.args.base c.args.block c.args.stride), ap length c.new-spans.ensures)

pub loop-i-preserved : goal.loop-i-preserved
loop-i-preserved c = (
  c.push.ensures ∙ ap (λ spans. spans ++ record { at = c.args.base + c.loop-i.i * c.args.stride; len = c.args.block } ∷ []) c.loop-i.invariant.0 ∙ sym (one_block_more c.args.base c.args.block c.args.stride c.loop-i.i),
  ap length c.push.ensures ∙ length_push c.loop-i.spans _ ∙ ap (λ n. n + 1) c.loop-i.invariant.1,
)

pub returns-clause-vector : goal.returns-clause-vector
returns-clause-vector c = λ script target at e.
    let all : c.loop-i.spans ≡ stride_spans c.args.base c.args.block c.args.stride c.args.count = search rules in
    (all ∙ as_vector script target at c.args.base c.args.block c.args.stride c.args.count e, refl)
