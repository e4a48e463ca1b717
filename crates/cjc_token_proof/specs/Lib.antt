pub mod Components
pub mod ByToken
pub mod Calls
pub mod Tables
pub mod WrittenCalls
pub mod WrittenSends
-- Definitions of lower crates, for those above.
pub mod JvmSemantics
pub mod WorldProof
