pub mod Entries
pub mod Taken
