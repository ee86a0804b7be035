pub mod TurningLaws
