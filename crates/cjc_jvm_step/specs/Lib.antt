pub mod Frame
pub mod Heap
pub mod Step
-- Definitions of lower crates, for those above.
pub mod LowerClassFile
pub mod Bytecode
pub mod Script
pub mod LowerWorld
pub mod CardSemantics
pub mod JvmSemantics
