pub mod Tables
pub mod Dispatch
pub mod Calls
pub mod Laws
pub mod Kept
pub mod Naming
pub mod Working
pub mod Meant
-- Definitions of lower crates, for those above.
pub mod Fixpoint
pub mod LowerClassOrder
pub mod LowerSubset
pub mod LowerTokens
