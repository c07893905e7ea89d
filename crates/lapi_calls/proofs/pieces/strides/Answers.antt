use Rattle.std.proofs.Common.{◌+◌, ◌*◌, ◌++◌, ◌∷◌, [], length, sym, ap, ◌∙◌}
use Rattle.std.proofs.lemmas.List.{length_push}
use Rattle.lapi_calls.specs.declared.reach.Reach.{Reach}
use Rattle.lapi_calls.proofs.ReasonLaws.{stride-more, stride-none}
use Rattle.lapi_calls.proofs.pieces.strides.Goals as goal

pub loop-k-init : goal.loop-k-init
loop-k-init c = (c.new-reaches.ensures ∙ sym (stride-none c.args.first.known c.args.first.at c.args.first.len c.args.stride), ap length c.new-reaches.ensures)

pub loop-k-preserved : goal.loop-k-preserved
loop-k-preserved c =
    let k = c.loop-k.k in
    let r : Reach = record { known = c.args.first.known; at = c.args.first.at + k * c.args.stride; len = c.args.first.len } in (
      c.push.ensures ∙ ap (λ rs. rs ++ r ∷ []) c.loop-k.invariant.0 ∙ sym (stride-more c.args.first.known c.args.first.at c.args.first.len c.args.stride k),
      ap length c.push.ensures ∙ length_push c.loop-k.reaches r ∙ ap (λ n. n + 1) c.loop-k.invariant.1,
    )
