pub mod Working
pub mod CardNames
-- Definitions of lower crates, for those above.
pub mod ExportFile
pub mod Script
pub mod CapWrite
pub mod World
pub mod Subset
pub mod Clinit
pub mod CheckRules
pub mod CheckIndex
pub mod CardSemantics
pub mod CardFrame
