pub mod Conversion
pub mod Publication
-- Definitions of lower crates, for those above.
pub mod List
pub mod Judge
