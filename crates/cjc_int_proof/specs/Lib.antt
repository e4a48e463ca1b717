pub mod Walks
pub mod LongRuns
pub mod Labels
pub mod Operands
-- Definitions of lower crates, for those above.
pub mod Bytecode
pub mod Layout
