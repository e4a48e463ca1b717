pub mod Effects
pub mod Rows
-- Definitions of lower crates, for those above.
pub mod ClassFile
