pub mod Lines
pub mod Files
pub mod Found
pub mod Names
-- Definitions of lower crates, for those above.
pub mod LowerCheckRules
pub mod LowerCardLink
