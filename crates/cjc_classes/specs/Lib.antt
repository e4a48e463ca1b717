pub mod ClassInfo
pub mod Applets
pub mod TypeInfo
pub mod Descriptor
pub mod Entries
pub mod Walks
-- Definitions of lower crates, for those above.
pub mod Bytes
pub mod LowerList
pub mod Script
pub mod CapRead
pub mod World
pub mod LowerClassOrder
pub mod Tokens
pub mod LowerVTable
pub mod LowerClinit
pub mod LowerNCode
pub mod Components
