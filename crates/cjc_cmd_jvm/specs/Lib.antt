pub mod Running
pub mod Runs
-- Definitions of lower crates, for those above.
pub mod LowerShelf
pub mod LowerScriptText
pub mod JvmLink
pub mod Judge
