pub mod KeyLaws
pub mod WriteLaws
pub mod FillLaws
pub mod SaveLaws
