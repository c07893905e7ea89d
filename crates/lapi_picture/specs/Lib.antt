pub mod Chart
pub mod Fixed
pub mod Labels
pub mod Rows
pub mod Shapes
pub mod Sheet
