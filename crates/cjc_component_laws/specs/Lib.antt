pub mod OwnNames
pub mod Found
