pub mod DigitLaws
pub mod MoveLaws
pub mod SetLaws
pub mod HeldLaws
pub mod NoteLaws
