pub mod Parameters
pub mod Supplier
