pub mod Served
pub mod Flushed
pub mod Swept
pub mod Settled
pub mod Rounds
pub mod Counted
