pub mod Agree
pub mod Sorts
-- Definitions of lower crates, for those above.
pub mod Bytes
