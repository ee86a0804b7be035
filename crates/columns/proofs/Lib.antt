pub mod GatherLaws
pub mod LaneLaws
pub mod CellLaws
pub mod WithinLaws
