pub mod Parts
pub mod Package
pub mod Pool
pub mod Class
pub mod Method
pub mod Statics
pub mod Export
pub mod Descriptor
pub mod Fits
pub mod Files
pub mod Writable
pub mod Size
-- Definitions of lower crates, for those above.
pub mod CapRead
