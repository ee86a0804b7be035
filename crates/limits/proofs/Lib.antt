pub mod LimitLaws
pub mod RowLaws
pub mod FieldLaws
