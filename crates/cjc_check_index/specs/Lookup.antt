pub mod Indexed
pub mod MethodStarts
pub mod Parts
pub mod Tokens
