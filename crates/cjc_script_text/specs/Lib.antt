pub mod Grammar
pub mod Printed
pub mod Scripted
pub mod Spelling
pub mod Words
pub mod Working
-- Definitions of lower crates, for those above.
pub mod List
pub mod Script
