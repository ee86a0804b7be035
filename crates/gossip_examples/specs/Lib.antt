pub mod Worked
pub mod House
