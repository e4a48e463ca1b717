pub mod PackageTypes
pub mod Entries
pub mod Checked
pub mod Programs
pub mod Suited
pub mod Selecting
pub mod ClassInfos
pub mod Dispatching
pub mod Kept
-- Definitions of lower crates, for those above.
pub mod LowerExportFile
pub mod LowerCapRead
pub mod CapWrite
pub mod Subset
pub mod VTable
pub mod CheckIndex
pub mod CardActs
pub mod LowerVerify
