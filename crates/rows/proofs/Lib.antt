pub mod RowLaws
pub mod ViewLaws
pub mod SizeLaws
pub mod Whole
