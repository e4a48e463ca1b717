pub mod Written
pub mod Carded
pub mod Tables
pub mod Frames
pub mod Accepted
pub mod Read
pub mod Elements
pub mod Members
pub mod Plain
pub mod Blocks
pub mod Methods
-- Definitions of lower crates, for those above.
pub mod CapWrite
pub mod Subset
pub mod CardActs
pub mod NarrowProof
