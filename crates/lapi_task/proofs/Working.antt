pub mod BeginLaws
pub mod EffectLaws
pub mod EndFollowers
pub mod EndLaws
pub mod JobCounts
pub mod JobsStay
pub mod QueueLaws
pub mod WorkStays
