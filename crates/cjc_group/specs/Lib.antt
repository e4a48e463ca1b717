pub mod Grammar
pub mod Grouped
pub mod Spelling
pub mod Trees
pub mod Members
pub mod Implementing
pub mod Rules
pub mod Missing
pub mod Agree
pub mod Worked
-- Definitions of lower crates, for those above.
pub mod Bytes
pub mod World
