pub mod Numbers
pub mod Code
pub mod ClassFile
pub mod Kept
pub mod Classes
pub mod Lang
pub mod Texts
pub mod Package
