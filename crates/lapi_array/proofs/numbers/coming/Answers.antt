use Rattle.std.proofs.Common.{◌*◌, ◌≤◌, sym, ap, ◌∙◌, subst}
use Rattle.lapi_blocks.specs.declared.patch.Patch.{Patch}
use Rattle.lapi_blocks.specs.Plans.{part_of}
use Rattle.lapi_array.proofs.ScheduleCounts.{few_words}
use Rattle.lapi_array.proofs.numbers.coming.Goals as goal

pub answer_numbers-requires : goal.answer_numbers-requires
answer_numbers-requires c =
    subst (λ (p : Patch). p.rows * p.cols ≤ 256) (sym (c.part_of-part.ensures ∙ ap (λ (p : Patch). part_of c.args.plan.now p c.args.from) c.patch-whole.ensures))
    (few_words c.args.plan.now c.args.k c.args.op.now c.args.from c.requires.op)
