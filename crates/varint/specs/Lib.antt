pub mod Groups
pub mod Codes
