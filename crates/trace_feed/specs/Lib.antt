pub mod Front
pub mod Printed
pub mod Turns
pub mod Cuts
