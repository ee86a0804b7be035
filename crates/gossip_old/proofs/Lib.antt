pub mod ClearLaws
pub mod OldLaws
pub mod MadeLaws
