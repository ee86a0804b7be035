pub mod TextLaws
pub mod OutputLaws
