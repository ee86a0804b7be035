pub mod LoadPlaces
pub mod SaveSize
pub mod SavingLaws
