pub mod PoolOrder
pub mod ByLabel
pub mod Written
pub mod WorkedCode
pub mod Lowering
pub mod IntCode
-- Definitions of lower crates, for those above.
pub mod LowerBytes
pub mod LowerScript
pub mod LowerCapRead
pub mod LowerCardSemantics
