pub mod Converted
pub mod Joined
