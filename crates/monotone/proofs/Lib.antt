pub mod StepThree
pub mod Place
pub mod BestFirst
