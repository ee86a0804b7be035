pub mod Examples
pub mod PairLaws
pub mod PlaceLaws
