pub mod Bytecode
pub mod Machine
-- Definitions of lower crates, for those above.
pub mod Bytes
pub mod Range
pub mod ExportFile
pub mod Script
pub mod CapRead
