pub mod CopyLaws
pub mod CellLaws
pub mod Returns
