pub mod Package
pub mod Laws
pub mod Report
-- Definitions of lower crates, for those above.
pub mod CmdConvert
