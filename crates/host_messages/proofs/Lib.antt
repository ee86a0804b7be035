pub mod MessageLaws
pub mod WritingLaws
