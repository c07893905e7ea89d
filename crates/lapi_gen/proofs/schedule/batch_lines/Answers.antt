use Rattle.std.proofs.Common.{◌++◌, List, ap, ◌∙◌}
use Rattle.lapi_base.specs.declared.schedule.Line.{Line}
use Rattle.lapi_gen.specs.declared.part.Part.{Part}
use Rattle.lapi_gen.specs.declared.part.Part.TheVariants.{Steps, Polls, Requests, Acknowledgements, Again, Jobs, Answers, Returns}
use Rattle.lapi_gen.proofs.Parts.{all_parts, part_is}
use Rattle.lapi_gen.proofs.schedule.batch_lines.Goals as goal

pub returns : goal.returns
returns c =
    let n = c.args.draws.now in
    let b = c.args.b in
    let is = λ (part : Part) (before : List Line). ap (λ lines. before ++ lines) (part_is n b c.batch-batch.result c.links_at-links.result part c.batch-batch.ensures.batch c.links_at-links.ensures.links) in
    all_parts n b c.args.schedule.now c.part_lines.new.schedule c.part_lines-2.new.schedule c.part_lines-3.new.schedule c.part_lines-4.new.schedule c.part_lines-5.new.schedule c.part_lines-6.new.schedule c.part_lines-7.new.schedule c.part_lines-8.new.schedule
    (c.in_ok-part_lines.ensures ∙ is Steps _) (c.in_ok-part_lines-2.ensures ∙ is Polls _) (c.in_ok-part_lines-3.ensures ∙ is Requests _) (c.in_ok-part_lines-4.ensures ∙ is Acknowledgements _)
    (c.in_ok-part_lines-5.ensures ∙ is Again _) (c.in_ok-part_lines-6.ensures ∙ is Jobs _) (c.in_ok-part_lines-7.ensures ∙ is Answers _) (c.in_ok-part_lines-8.ensures ∙ is Returns _)
