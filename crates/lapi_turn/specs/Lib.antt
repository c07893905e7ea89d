pub mod Entries
pub mod Places
pub mod Seats
pub mod Steps
pub mod TurnRule
