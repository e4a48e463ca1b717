pub mod Files
pub mod Classes
pub mod Supertypes
pub mod Interfaces
pub mod Lookup
pub mod Working
pub mod Subtype
pub mod Access
pub mod Exported
pub mod Added
pub mod Rules
pub mod Laws
pub mod Order
pub mod Upwards
-- Definitions of lower crates, for those above.
pub mod Bytes
pub mod ClassFile
pub mod ExportFile
