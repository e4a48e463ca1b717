pub mod TypesFound
pub mod Spots
pub mod Descs
pub mod Members
pub mod Numbers
pub mod Entries
