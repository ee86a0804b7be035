pub mod Numbers
pub mod Skim
pub mod Judge
pub mod Store
pub mod Checked
