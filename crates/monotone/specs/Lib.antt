pub mod Better
pub mod BestFirst
