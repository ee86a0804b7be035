pub mod Valid
pub mod Order
pub mod Looks
