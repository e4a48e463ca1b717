pub mod Whole
pub mod Calls
pub mod Named
pub mod Converted
pub mod Runs
