pub mod Whole
pub mod Entries
pub mod Tokens
pub mod Linking
pub mod Selected
pub mod Above
pub mod Grouped
