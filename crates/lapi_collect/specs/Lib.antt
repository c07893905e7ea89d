pub mod FlagWords
pub mod Outstanding
pub mod Rounds
