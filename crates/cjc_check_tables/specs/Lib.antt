pub mod Links
pub mod Exported
pub mod Members
-- Definitions of lower crates, for those above.
pub mod CheckIndex
