use Rattle.std.proofs.Common.{◌∙◌}
use Rattle.lapi_array.proofs.ScheduleEnds.{schedule_ends, schedule_few, schedule_valid}
use Rattle.lapi_array.proofs.compiled.compile.Goals as goal

pub returns-clause-valid : goal.returns-clause-valid
returns-clause-valid c = schedule_valid c.args.plan.now c.requires c.into_schedule-schedule.result (c.into_schedule-schedule.ensures.acts ∙ c.in_ok-lines.ensures) c.into_schedule-schedule.ensures.lane

pub returns-clause-few : goal.returns-clause-few
returns-clause-few c = schedule_few c.args.plan.now c.requires c.into_schedule-schedule.result (c.into_schedule-schedule.ensures.acts ∙ c.in_ok-lines.ensures)

pub returns-clause-ends : goal.returns-clause-ends
returns-clause-ends c = schedule_ends c.args.plan.now c.requires c.into_schedule-schedule.result (c.into_schedule-schedule.ensures.acts ∙ c.in_ok-lines.ensures)
