pub mod Ranges
pub mod Parts
pub mod Formula
pub mod Sums
pub mod Counters
pub mod Score
