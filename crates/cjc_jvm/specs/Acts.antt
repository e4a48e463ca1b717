pub mod Meant
pub mod Acts
