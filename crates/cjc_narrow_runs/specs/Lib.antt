pub mod Tables
pub mod Types
pub mod Names
pub mod Converted
