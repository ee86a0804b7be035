pub mod Refusable
