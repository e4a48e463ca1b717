pub mod Folder
-- Definitions of lower crates, for those above.
pub mod CmdCheck
