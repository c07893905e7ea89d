use Rattle.std.proofs.Common.{◌++◌, ◌∙◌, ap}
use Rattle.std.specs.List.{flat_map}
use Rattle.lapi_base.specs.Record.Operations.{numbers_below}
use Rattle.lapi_array.specs.ArrayText.{got_at}
use Rattle.lapi_array.proofs.Listed.{flat_more}
use Rattle.lapi_array.proofs.writing.array_text.Goals as goal

pub loop-k-preserved : goal.loop-k-preserved
loop-k-preserved c =
    c.in_ok-extend_from_slice.ensures.items
    ∙ ap (λ xs. xs ++ c.as_slice-in-loop-k-2.result.now) c.loop-k.invariant
    ∙ ap (λ xs. flat_map (got_at c.args.plan.now) (numbers_below c.loop-k.k) ++ xs) (c.as_slice-in-loop-k-2.ensures ∙ c.in_ok-got_line.ensures)
    ∙ flat_more (got_at c.args.plan.now) c.loop-k.k
