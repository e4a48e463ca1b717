pub mod Calls
pub mod Files
pub mod Initialisers
-- Definitions of lower crates, for those above.
pub mod Bytecode
pub mod ClassOrder
pub mod Subset
pub mod LowerClinit
