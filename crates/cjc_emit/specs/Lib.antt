pub mod Emitted
pub mod Worked
pub mod Working
pub mod Said
-- Definitions of lower crates, for those above.
pub mod Script
pub mod CardSemantics
pub mod NCode
pub mod LowerLayout
