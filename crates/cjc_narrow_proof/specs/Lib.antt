pub mod Selection
pub mod Tables
pub mod Runs
pub mod Selected
pub mod Laws
pub mod Sources
-- Definitions of lower crates, for those above.
pub mod ExportFile
pub mod Script
pub mod LowerIntervals
pub mod CardSemantics
pub mod NCode
