pub mod Codes
pub mod Spelt
pub mod Rules
pub mod Trees
pub mod Types
pub mod Tokens
pub mod Judged
pub mod Modes
pub mod Joint
pub mod Working
pub mod OutOfRange
-- Definitions of lower crates, for those above.
pub mod World
pub mod LowerClinit
pub mod LowerFlow
pub mod LowerIntMode
pub mod LowerIntNarrow
