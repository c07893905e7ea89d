pub mod Lists
pub mod Pigeons
pub mod Views
pub mod Keeps
pub mod Turned
pub mod Shares
