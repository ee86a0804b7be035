pub mod CodeLaws
pub mod TableLaws
pub mod RoomLaws
pub mod FindLaws
pub mod Examples
pub mod OrderLaws
