pub mod Forms
pub mod Import
pub mod Export
pub mod RoundTrip
