pub mod Members
pub mod Abroad
pub mod Sources
pub mod Means
pub mod Interfaces
pub mod Names
pub mod Exports
pub mod Catches
