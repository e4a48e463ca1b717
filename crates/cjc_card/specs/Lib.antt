pub mod Acts
pub mod States
pub mod Runs
pub mod Ready
-- Definitions of lower crates, for those above.
pub mod ClassFile
pub mod Bytecode
pub mod CapRead
pub mod CardLink
pub mod Jvm
