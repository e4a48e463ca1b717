pub mod Dataflow
pub mod Gathered
pub mod Kept
pub mod Lattice
pub mod Marked
pub mod Segments
pub mod Shortened
pub mod Steps
pub mod Tables
pub mod Walks
pub mod Working
-- Definitions of lower crates, for those above.
pub mod Bytes
