pub mod CompleteRounds
pub mod EnterFields
pub mod EnterSteps
pub mod EnteredCalls
pub mod JoinSteps
pub mod KnownRounds
pub mod RoundNumbers
pub mod RoundsStay
