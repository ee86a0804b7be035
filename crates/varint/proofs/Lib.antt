pub mod GroupLaws
pub mod CodeLaws
pub mod Bits
