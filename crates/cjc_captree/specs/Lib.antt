pub mod Working
pub mod Trees
-- Definitions of lower crates, for those above.
pub mod Bytes
pub mod List
pub mod ClassFile
pub mod ExportFile
pub mod CapWrite
pub mod ClassOrder
pub mod Tokens
pub mod CheckRules
pub mod NCode
pub mod Layout
pub mod LowerClasses
pub mod LowerMethods
