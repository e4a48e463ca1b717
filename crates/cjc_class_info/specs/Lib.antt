pub mod Refs
pub mod Infos
