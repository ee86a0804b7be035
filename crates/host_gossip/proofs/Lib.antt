pub mod RouterLaws
