pub mod Compat
pub mod Subclasses
-- Definitions of lower crates, for those above.
pub mod List
pub mod ClassFile
pub mod ExportFile
pub mod CapRead
pub mod CheckRules
pub mod CmdCheck
