pub mod Names
pub mod Group
pub mod Indices
pub mod Infos
pub mod Described
pub mod Exported
pub mod Tables
pub mod Walks
pub mod MetClasses
pub mod Climbs
-- Definitions of lower crates, for those above.
pub mod Bytes
pub mod ExportFile
pub mod Script
pub mod World
pub mod LowerCheckRules
pub mod LowerCheckIndex
pub mod LowerCardFrame
