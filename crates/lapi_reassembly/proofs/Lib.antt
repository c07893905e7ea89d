pub mod Chunks
pub mod Lookups
pub mod PartialLaws
pub mod PutLaws
