pub mod BitLaws
pub mod WideLaws
pub mod SlotWalk
pub mod NextLaws
