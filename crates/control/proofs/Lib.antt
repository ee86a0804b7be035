pub mod PruneLaws
pub mod GraftLaws
