pub mod Lists
pub mod Directions
pub mod Frame
pub mod Demand3
pub mod Bound
pub mod Kept
