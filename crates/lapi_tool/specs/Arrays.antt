-- What is told of a plan: what its operations got, and the array that they leave, as of a plain array. This is the
-- project's own.
use Rattle.std.specs.Prelude.{ℕ, ◌⊎◌, List, Option, Result, Ok, Err}
use Rattle.lapi_array.specs.ArrayText.{array_text}
use Rattle.lapi_array.specs.PlanReading.{read_plan}
use Rattle.lapi_base.specs.declared.status.Status.{Status}
use Rattle.lapi_base.specs.declared.status.Status.TheVariants as status
use Rattle.lapi_base.specs.Input.Reading.{Fault}
use Rattle.lapi_base.specs.Output.CommandAnswers.{Answer, fault_answer}
use Rattle.lapi_blocks.specs.declared.plan.Plan.{Plan}
use Rattle.lapi_tool.specs.Outcomes.{CommandGives, IsSilent, WasRead}

abbrev pub plan_answer : Result Plan Fault → Answer
plan_answer (Ok plan) = record { status = status.Ok; text = array_text plan }
plan_answer (Err fault) = fault_answer fault

-- the source couldn't be read, and nothing was written; or it was read, and its plan was answered
abbrev pub IsArrayTold : (left rest held now : Option (List ℕ)) → Status → Type 0
IsArrayTold left rest held now result =
    IsSilent result held now ⊎ ((bytes : List ℕ) × WasRead left rest bytes × CommandGives (plan_answer (read_plan bytes)) held now result)
