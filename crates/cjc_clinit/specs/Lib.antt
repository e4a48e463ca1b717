pub mod Fields
pub mod Initialiser
pub mod Image
pub mod Rules
pub mod Working
pub mod Worked
-- Definitions of lower crates, for those above.
pub mod Range
pub mod ClassFile
pub mod Bytecode
pub mod World
pub mod Subset
