pub mod LaneLaws
pub mod ListLaws
pub mod RowLaws
pub mod CallLaws
pub mod TestLaws
pub mod LimitLaws
