pub mod Meanings
pub mod Codes
pub mod Frame
pub mod Objects
pub mod Cells
pub mod Kinds
-- Definitions of lower crates, for those above.
pub mod LowerClassFile
pub mod Bytecode
pub mod LowerScript
pub mod LowerWorld
pub mod LowerCardSemantics
pub mod JvmSemantics
