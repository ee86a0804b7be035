pub mod Maintenance
pub mod Words
pub mod Still
