pub mod Bytes
pub mod Factor
pub mod Entries
pub mod Asked
pub mod RoundTrip
pub mod Examples
