pub mod Records
pub mod Parameters
