pub mod Codes
pub mod Reader
