pub mod SinkWrites
pub mod OfStatements
pub mod CapturedLines
