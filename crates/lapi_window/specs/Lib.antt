pub mod Flags
pub mod NumberSet
pub mod RecvWindow
pub mod SendWindow
