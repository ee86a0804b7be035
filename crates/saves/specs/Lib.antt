pub mod Save
pub mod Rising
pub mod Load
pub mod Promises
pub mod Examples
