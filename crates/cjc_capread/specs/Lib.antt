pub mod Card
pub mod Opcodes
pub mod Parts
pub mod ClassRefs
pub mod Header
pub mod Directory
pub mod Applet
pub mod Import
pub mod Pool
pub mod Until
pub mod Class
pub mod Method
pub mod StaticField
pub mod ReferenceLocation
pub mod Export
pub mod Descriptor
pub mod Component
pub mod Decode
pub mod MethodHeader
pub mod Kinds
pub mod Working
pub mod Decoder
-- Definitions of lower crates, for those above.
pub use Rattle.cjc_bytes.specs as Bytes
