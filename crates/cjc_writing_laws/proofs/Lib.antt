mod Aids
mod Sizes
pub mod Signatures
pub mod Entries
mod Interfaces
