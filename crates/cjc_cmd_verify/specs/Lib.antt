pub mod Verify
pub mod Working
-- Definitions of lower crates, for those above.
pub mod Script
pub mod ScriptText
pub mod CapWrite
pub mod Judge
pub mod CmdJvm
pub mod CmdCard
