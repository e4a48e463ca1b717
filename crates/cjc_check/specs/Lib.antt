pub mod Coded
pub mod Firsts
pub mod Linked
pub mod Order
pub mod Codes
pub mod Jumps
-- Definitions of lower crates, for those above.
pub mod LowerExportFile
pub mod LowerCheckRules
