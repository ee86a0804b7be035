pub mod Behind
pub mod Worked
pub mod House
