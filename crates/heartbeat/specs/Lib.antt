pub mod Heights
pub mod Grafts
pub mod Settle
pub mod Ready
pub mod Tell
