pub mod Ids
pub mod Once
pub mod Examples
