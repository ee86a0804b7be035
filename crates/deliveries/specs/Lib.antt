pub mod Decays
pub mod OneRecord
