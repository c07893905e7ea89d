pub mod BuiltInHeader
pub mod CompletionFn
pub mod Handlers
pub mod HeaderFn
