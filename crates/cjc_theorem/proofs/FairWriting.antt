pub mod Upwards
pub mod Worlds
pub mod Beside
pub mod Once
pub mod Entries
pub mod Fields
pub mod Test
