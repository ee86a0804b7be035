pub mod SeenLaws
pub mod HeightLaws
pub mod GraftLaws
pub mod SettleLaws
pub mod ReplyLaws
pub mod TellLaws
