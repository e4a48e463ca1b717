pub mod Rules
pub mod References
pub mod Working
-- Definitions of lower crates, for those above.
pub mod ExportFile
