pub mod Modes
pub mod Written
pub mod Room
pub mod Working
-- Definitions of lower crates, for those above.
pub mod Bytes
pub mod Range
pub mod Fixpoint
pub mod ClassFile
pub mod Bytecode
pub mod Script
pub mod CapRead
pub mod World
pub mod LowerSubset
pub mod Intervals
pub mod Flow
pub mod CardSemantics
