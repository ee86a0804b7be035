pub mod StepLaws
pub mod MaintenanceLaws
pub mod Bound
pub mod ActionLaws
pub mod StillLaws
