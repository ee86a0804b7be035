pub mod IdleLaws
pub mod WeightLaws
pub mod BucketLaws
pub mod SharingLaws
pub mod ConnectedLaws
