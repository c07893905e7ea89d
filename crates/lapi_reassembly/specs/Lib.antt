pub mod Partial
pub mod Partials
