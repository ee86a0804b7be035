pub mod LineLaws
pub mod Enough
