pub mod Folder
pub mod Check
-- Definitions of lower crates, for those above.
pub mod Bytes
pub mod LowerShelf
pub mod List
pub mod LowerCapRead
pub mod CheckRules
