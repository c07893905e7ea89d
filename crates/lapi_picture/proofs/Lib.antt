pub mod EachRow
pub mod Joins
pub mod Unshown
