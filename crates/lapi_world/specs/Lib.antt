pub mod Ends
pub mod Grows
pub mod Jobs
pub mod Settled
pub mod Stands
