pub mod PartLaws
pub mod ViewLaws
pub mod FineLaws
pub mod NoteParts
pub mod StoreParts
pub mod TestLaws
pub mod MadeLaws
