pub mod Reads
pub mod Members
pub mod Refused
pub mod Runs
pub mod Working
pub mod ByToken
-- Definitions of lower crates, for those above.
pub mod LinkSemantics
