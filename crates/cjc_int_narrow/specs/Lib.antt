pub mod Constants
pub mod Reached
pub mod Operands
pub mod Select
pub mod Working
-- Definitions of lower crates, for those above.
pub mod Bytes
pub mod Range
pub mod ClassFile
pub mod Bytecode
pub mod Script
pub mod World
pub mod LowerSubset
pub mod CardSemantics
pub mod LowerIntMode
pub mod LowerNarrow
pub mod LowerIntProof
