pub mod Ready
pub mod Words
pub mod Working
pub mod Layouts
pub mod Component
-- Definitions of lower crates, for those above.
pub mod Bytes
pub mod Fixpoint
pub mod ClassFile
pub mod ExportFile
pub mod CapWrite
pub mod World
pub mod VTable
pub mod Check
pub mod NCode
pub mod Components
pub mod Pool
