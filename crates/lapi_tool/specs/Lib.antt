pub mod Answered
pub mod Arrays
pub mod AuditedJournals
pub mod Landings
pub mod Live
pub mod Outcomes
pub mod Shown
pub mod Surely
