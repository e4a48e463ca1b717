pub mod Lookup
pub mod Imported
-- Definitions of lower crates, for those above.
pub mod Bytes
pub mod CheckRules
