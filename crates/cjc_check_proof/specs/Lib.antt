pub mod Classes
pub mod Code
pub mod Keys
pub mod Exports
pub mod Consistent
pub mod Made
pub mod Limits
-- Definitions of lower crates, for those above.
pub mod CapRead
pub mod Tokens
pub mod VTable
pub mod CheckRules
pub mod Intervals
pub mod NCode
pub mod WorldProof
pub mod TokenProof
pub mod NarrowProof
