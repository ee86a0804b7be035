pub mod WordLaws
pub mod WalkLaws
pub mod FlagLaws
