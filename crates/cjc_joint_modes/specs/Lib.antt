pub mod Codes
pub mod Calls
pub mod Names
pub mod Converted
pub mod Members
