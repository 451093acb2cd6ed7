pub mod Aggregates
pub mod Cells
