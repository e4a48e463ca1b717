pub mod Whole
pub mod Finds
pub mod Written
-- Definitions of lower crates, for those above.
pub mod CapRead
pub mod World
pub mod Intervals
pub mod Flow
pub mod WorldProof
pub mod Components
pub mod LowerClasses
pub mod Pool
pub mod LowerMethods
pub mod LowerCheckProof
pub mod LowerJudge
pub mod LowerShape
pub mod LowerIntPackage
