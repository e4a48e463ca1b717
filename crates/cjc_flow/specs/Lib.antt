pub mod States
pub mod Constants
pub mod Tables
pub mod Working
pub mod Tests
-- Definitions of lower crates, for those above.
pub mod Range
pub mod LowerFixpoint
pub mod ClassFile
pub mod Bytecode
pub mod World
pub mod LowerTypes
pub mod LowerIntervals
