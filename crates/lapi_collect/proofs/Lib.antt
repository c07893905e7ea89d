pub mod Flags
pub mod Joining
pub mod Open
