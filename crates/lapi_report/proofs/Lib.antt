pub mod Counts
pub mod Digits
pub mod Entries
pub mod Frames
pub mod LayoutWords
pub mod Numbers
pub mod OfStatements
pub mod Pairs
pub mod Progress
pub mod ScheduleLines
pub mod SpanWords
mod WorkedLines
