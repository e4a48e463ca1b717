pub mod Grammar
pub mod Listed
pub mod Spelling
-- Definitions of lower crates, for those above.
pub mod Bytes
