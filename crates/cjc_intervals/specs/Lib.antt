pub mod Frames
pub mod Values
pub mod Steps
pub mod Flow
pub mod Bounds
pub mod Tables
pub mod RangeLaws
-- Definitions of lower crates, for those above.
pub mod Fixpoint
pub mod Bytecode
pub mod Types
