-- What `read_plan` answers.
use Rattle.std.specs.Prelude.{ℕ, List, Result}
use Rattle.lapi_base.specs.declared.input.ReadFault.{ReadFault}
use Rattle.lapi_base.specs.Input.Reading.{Fault}
use Rattle.lapi_blocks.specs.declared.plan.Plan.{Plan}
use Rattle.lapi_script.specs.ReaderAnswers.{GivesText, FaultHas}
use Rattle.lapi_array.specs.PlanRows.{IsFirstPlanFault}

abbrev pub GivesPlan : Result Plan ReadFault → Result Plan Fault → Type 0
GivesPlan result read = GivesText result read

-- The line of the fault is the first up to which the lines begin no plan's text.
abbrev pub PlanFaultIsFirst : List (List ℕ) → Result Plan ReadFault → Type 0
PlanFaultIsFirst lines result = FaultHas (IsFirstPlanFault lines) result
