pub mod View
pub mod Moves
pub mod Lent
