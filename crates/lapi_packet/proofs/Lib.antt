pub mod Equality
pub mod MatchingSpans
pub mod BitsSizes
pub mod FragmentSizes
pub mod Lengths
pub mod Answering
pub mod Faults
pub mod LongestPacket
