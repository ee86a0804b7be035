pub mod FormLaws
pub mod ImportLaws
pub mod ExportLaws
pub mod RoundTrip
