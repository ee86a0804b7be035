pub mod Gather
pub mod Within
