pub mod Refs
pub mod Infos
pub mod Entries
