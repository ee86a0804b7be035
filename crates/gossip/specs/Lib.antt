pub mod Cells
pub mod Notes
pub mod Valid
pub mod Calls
pub mod Step
