pub mod Steps
pub mod Strides
pub mod Vectors
