pub mod HasLaws
pub mod ViewLaws
pub mod ChangeLaws
pub mod ListLaws
pub mod MarkLaws
pub mod ApartLaws
pub mod WantLaws
