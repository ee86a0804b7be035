pub mod FactorLaws
pub mod EntryLaws
pub mod ByteLaws
pub mod RoundTrip
pub mod Examples
