pub mod Fetching
pub mod Keys
pub mod Upwards
