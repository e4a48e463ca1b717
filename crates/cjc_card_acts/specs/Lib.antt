pub mod CardTypes
pub mod Told
pub mod Rows
-- Definitions of lower crates, for those above.
pub mod Script
pub mod CheckRules
pub mod CardSemantics
pub mod JvmSemantics
pub mod CardFrame
pub mod LowerFrames
