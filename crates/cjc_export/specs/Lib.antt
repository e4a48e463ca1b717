pub mod Entry
pub mod Kind
pub mod Words
pub mod Pool
pub mod Package
pub mod Members
pub mod Root
pub mod ExportFile
pub mod Constant
pub mod Written
pub mod Working
pub mod Writable
pub mod Lookup
pub mod Tokens
pub mod Supers
-- Definitions of lower crates, for those above.
pub mod Bytes
