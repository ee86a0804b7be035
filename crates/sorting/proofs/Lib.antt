pub mod SortLaws
pub mod PlaceLaws
