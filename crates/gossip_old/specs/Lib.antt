pub mod Tested
pub mod Made
