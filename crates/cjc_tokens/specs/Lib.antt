pub mod Members
pub mod Lines
pub mod Slots
pub mod Fields
pub mod Methods
pub mod Tokens
pub mod Rules
pub mod MethodNames
pub mod SlotRows
pub mod Working
pub mod TokenLaws
-- Definitions of lower crates, for those above.
pub mod LowerFixpoint
