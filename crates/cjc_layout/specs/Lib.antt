pub mod Sizes
pub mod Forms
pub mod Legal
pub mod Handlers
pub mod Refusals
pub mod Layouts
pub mod OnCard
pub mod Worked
pub mod Working
-- Definitions of lower crates, for those above.
pub mod Bytes
pub mod Script
pub mod CapRead
pub mod CardSemantics
