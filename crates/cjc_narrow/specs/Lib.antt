pub mod Keys
pub mod Rows
pub mod Written
pub mod Pairs
pub mod Select
-- Definitions of lower crates, for those above.
pub mod LowerCapRead
pub mod Types
pub mod LowerCardSemantics
pub mod LowerNCode
pub mod LowerJvmSemantics
