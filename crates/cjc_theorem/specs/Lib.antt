pub mod FairExports
pub mod Built
pub mod Alike
-- Definitions of lower crates, for those above.
pub mod ExportFile
pub mod CapRead
pub mod Subset
pub mod VTable
pub mod CheckProof
pub mod LowerJudge
pub mod Shape
pub mod ShapeProof
