pub mod Acts
pub mod States
pub mod Runs
-- Definitions of lower crates, for those above.
pub mod Bytecode
pub mod JvmStep
