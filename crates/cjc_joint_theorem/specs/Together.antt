pub mod Homes
pub mod Calls
pub mod Names
pub mod Converted
