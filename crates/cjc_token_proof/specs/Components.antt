pub mod OwnNames
pub mod Found
pub mod Whole
pub mod Methods
