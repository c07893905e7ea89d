use Rattle.std.proofs.Common.{◌∙◌}
use Rattle.lapi_array.proofs.ScheduleLines.{whole_round}
use Rattle.lapi_array.proofs.ScheduleCounts.{next_round}
use Rattle.lapi_array.proofs.schedule.round.Goals as goal

pub returns-clause-lines : goal.returns-clause-lines
returns-clause-lines c =
    whole_round c.args.lines.now c.calls.new.lines c.sweep.new.lines c.sweep-2.new.lines c.fences.new.lines c.sweep-3.new.lines c.sweep-4.new.lines c.fences-2.new.lines c.args.plan.now c.args.k
    c.in_ok-calls.ensures c.in_ok-sweep.ensures.lines c.in_ok-sweep-2.ensures.lines c.in_ok-fences.ensures c.in_ok-sweep-3.ensures.lines c.in_ok-sweep-4.ensures.lines c.in_ok-fences-2.ensures

pub returns-clause-entries : goal.returns-clause-entries
returns-clause-entries c = λ x y lx ly. c.in_ok-sweep-4.ensures.entries x y lx ly ∙ next_round c.args.plan.now c.args.k x y
