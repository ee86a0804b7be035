pub mod NumberLaws
pub mod StoreLaws
pub mod AskLaws
pub mod AnnounceLaws
