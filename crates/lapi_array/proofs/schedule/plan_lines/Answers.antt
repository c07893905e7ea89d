use Rattle.std.proofs.Common.{◌∙◌, sym}
use Rattle.lapi_array.proofs.ScheduleLines.{no_rounds}
use Rattle.lapi_array.proofs.ScheduleCounts.{at_start, few_tasks}
use Rattle.lapi_array.proofs.schedule.plan_lines.Goals as goal

pub loop-k-init : goal.loop-k-init
loop-k-init c = record {
  lines = c.new-lines.ensures ∙ no_rounds c.args.plan.now;
  stand = λ x y lx ly. c.none-entries.ensures x y (few_tasks c.args.plan.now x c.requires lx) (few_tasks c.args.plan.now y c.requires ly) ∙ sym (at_start c.args.plan.now x y);
}
