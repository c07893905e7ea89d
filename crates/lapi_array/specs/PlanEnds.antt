-- A schedule that runs a plan's script to its end.
use Rattle.std.specs.Prelude.{List}
use Rattle.lapi_base.specs.declared.rule.Rules.{Rules}
use Rattle.lapi_base.specs.declared.schedule.Line.{Line}
use Rattle.lapi_base.specs.Record.WorldView.{record_of_all}
use Rattle.lapi_blocks.specs.declared.plan.Plan.{Plan}
use Rattle.lapi_blocks.specs.Plans.{compiled}
use Rattle.lapi_blocks.specs.PlanRuns.{PlansEnd}

-- whatever handlers there are, after all its lines every task is past its last statement, and the record is quiet
abbrev pub EndsPlan : Plan → List Line → Type 0
EndsPlan plan schedule = (rules : Rules) → PlansEnd plan rules (record_of_all (compiled plan) rules schedule)
