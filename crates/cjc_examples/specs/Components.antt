pub mod Loads
pub mod Packages
