use Rattle.std.proofs.Common.{◌≡◌, ◌≤◌, ◌+◌, length}
use Rattle.lapi_base.specs.Input.Lines.{lines_of}
use Rattle.lapi_array.specs.PlanReading.{read_plan_from, First}
use Rattle.lapi_array.specs.PlanStates.{plan_state_of}
use Rattle.lapi_array.proofs.plan_text.read_lines.Given as goal

abbrev pub invariant-loop-rest : goal.invariant-loop-rest
invariant-loop-rest l = record {
  reads : read_plan_from l.line (plan_state_of l.state) (lines_of l.rest) ≡ read_plan_from 1 First (lines_of l.bytes);
  few : l.line + length l.rest ≤ 4194305;
}

abbrev pub decreases-loop-rest : goal.decreases-loop-rest
decreases-loop-rest l = length l.rest
