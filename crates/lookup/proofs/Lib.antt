pub mod FindLaws
pub mod NameLaws
pub mod FreshLaws
