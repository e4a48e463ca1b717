pub mod Places
pub mod Members
pub mod Names
pub mod Types
pub mod Flags
pub mod Overriding
pub mod Exports
pub mod Applets
pub mod Limits
pub mod Checks
pub mod Ints
pub mod Working
-- Definitions of lower crates, for those above.
pub mod Range
pub mod ClassFile
pub mod Bytecode
pub mod ExportFile
pub mod World
