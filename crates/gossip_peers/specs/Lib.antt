pub mod Peers
pub mod Callers
