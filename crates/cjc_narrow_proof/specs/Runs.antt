pub mod Tables
pub mod Types
pub mod Begun
pub mod Calls
pub mod Names
pub mod Converted
