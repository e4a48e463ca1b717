pub mod Running
pub mod Report
-- Definitions of lower crates, for those above.
pub mod LowerShelf
pub mod ScriptText
pub mod Judge
pub mod CmdJvm
pub mod LowerCmdCheck
