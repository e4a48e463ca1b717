pub mod Spots
pub mod Complete
pub mod Classes
pub mod Members
pub mod Listed
pub mod Imports
pub mod ClassRefs
pub mod Tables
pub mod PoolEntries
pub mod Codes
pub mod Instructions
pub mod Handlers
pub mod Locations
pub mod Statics
pub mod Exports
pub mod Described
pub mod Consistent
pub mod Example
-- Definitions of lower crates, for those above.
pub use Rattle.cjc_export.specs as ExportFile
pub use Rattle.cjc_capread.specs as CapRead
