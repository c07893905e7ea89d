pub mod Numbered
pub mod Streams
pub mod Drawn
pub mod Parts
pub mod ScriptLimits
pub mod ScheduleSizes
pub mod ScheduleLimits
