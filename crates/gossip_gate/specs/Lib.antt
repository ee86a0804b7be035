pub mod Promise
pub mod Admitted
