pub mod Reply
pub mod Calls
pub mod Step
pub mod Promise
pub mod Kept
pub mod Order
pub mod Words
