pub mod Behind
pub mod Reached
