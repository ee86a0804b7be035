pub mod Standing
pub mod Idle
pub mod Weights
pub mod Buckets
