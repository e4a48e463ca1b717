pub mod Modes
pub mod Written
pub mod Components
pub mod Limits
-- Definitions of lower crates, for those above.
pub mod LowerIntMode
