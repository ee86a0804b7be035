pub mod Edition1
