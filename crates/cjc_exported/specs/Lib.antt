pub mod ExportFile
pub mod Exportable
-- Definitions of lower crates, for those above.
pub mod Bytes
pub mod Fixpoint
pub mod ClassFile
pub mod World
pub mod Narrow
pub mod Components
