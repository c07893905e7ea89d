pub mod Calls
pub mod Entries
pub mod Heads
pub mod Places
pub mod Reaches
pub mod Reasons
pub mod Setting
pub mod Limits
