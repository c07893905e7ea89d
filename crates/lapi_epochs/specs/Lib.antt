pub mod Epochs
pub mod Stages
