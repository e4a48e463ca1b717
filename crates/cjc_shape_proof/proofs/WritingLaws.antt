pub mod Aids
pub mod Sizes
pub mod Signatures
pub mod Flags
pub mod Lacking
pub mod Entries
pub mod Interfaces
pub mod Unbound
