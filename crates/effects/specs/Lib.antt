pub mod Effects
pub mod Actions
pub mod Lent
