pub mod CheckLaws
pub mod OrdinaryLaws
pub mod CodeRules
pub mod ParamLaws
