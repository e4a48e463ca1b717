pub mod Pool
pub mod Working
pub mod Named
-- Definitions of lower crates, for those above.
pub mod List
pub mod CapRead
pub mod CapWrite
pub mod ClassOrder
pub mod Subset
pub mod Tokens
pub mod Clinit
pub mod CheckRules
pub mod Types
pub mod NCode
pub mod JvmSemantics
pub mod Narrow
pub mod Layout
pub mod Emit
