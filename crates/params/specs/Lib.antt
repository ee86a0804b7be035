pub mod Editions
pub mod Joint
pub mod Check
pub mod Ordinary
