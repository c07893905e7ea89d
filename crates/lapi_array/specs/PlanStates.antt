-- What the reader's state stands for.
use Rattle.lapi_array.specs.PlanReading.{PlanState, First, Second, Operations, Finished}
use Rattle.lapi_array.specs.declared.plan_state.PlanState.{PlanState as Held}
use Rattle.lapi_array.specs.declared.plan_state.PlanState.TheVariants as held

abbrev pub plan_state_of : Held → PlanState
plan_state_of held.First = First
plan_state_of held.Second = Second
plan_state_of (held.Operations plan) = Operations plan
plan_state_of (held.Finished plan) = Finished plan
