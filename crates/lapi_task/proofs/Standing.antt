pub mod Apart
pub mod KeptAnswers
pub mod NewStands
pub mod StillLaws
pub mod Tags
