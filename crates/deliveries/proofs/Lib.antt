pub mod DeliverLaws
pub mod DecayLaws
pub mod OneRecord
