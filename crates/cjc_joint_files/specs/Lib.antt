pub mod Written
pub mod Fair
pub mod Members
pub mod Ready
pub mod Reports
-- Definitions of lower crates, for those above.
pub mod Components
pub mod Group
