use Rattle.std.proofs.Common.{◌≡◌, ◌+◌, ◌≤◌, length}
use Rattle.lapi_blocks.specs.Plans.{stores}
use Rattle.lapi_array.proofs.ScheduleLines.{parts_below}
use Rattle.lapi_array.proofs.schedule.own_count.Given as goal

abbrev pub invariant-loop-task : goal.invariant-loop-task
invariant-loop-task l = record {
  counted : l.count ≡ length (stores l.k l.op) + parts_below l.plan l.op l.task;
  few : l.count ≤ 1 + l.task;
}
