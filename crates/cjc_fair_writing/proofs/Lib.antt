pub mod Upwards
pub mod Worlds
pub mod Kinds
pub mod Once
pub mod Entries
