pub mod Jvm
pub mod Table
pub mod Instruction
pub mod Cut
pub mod Items
pub mod Numbers
pub mod Unfit
pub mod Named
pub mod Decoded
pub mod Samples
pub mod Rules
pub mod PackageCodes
pub mod ReadLaws
-- Definitions of lower crates, for those above.
pub mod Bytes
pub mod Range
pub mod ClassFile
