pub mod Walks
pub mod EffectLaws
pub mod ActionLaws
