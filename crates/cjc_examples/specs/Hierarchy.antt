pub mod Drafts
pub mod LookUp
pub mod Adding
pub mod Tokens
