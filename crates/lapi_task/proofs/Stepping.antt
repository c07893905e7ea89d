pub mod FenceLaws
pub mod FenceSteps
pub mod Forms
pub mod ReasonForms
pub mod StepFields
pub mod StepLaws
pub mod StepMemories
