pub mod NumberLaws
pub mod SkimLaws
pub mod JudgeLaws
pub mod StoreLaws
pub mod LoadLaws
pub mod RangeLaws
pub mod CheckLaws
