pub mod Turns
pub mod Same
