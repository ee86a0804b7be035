pub mod Loads
pub mod Hosted
pub mod Slots
