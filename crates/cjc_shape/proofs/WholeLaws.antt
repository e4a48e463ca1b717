pub mod Ordered
pub mod Drafts
pub mod Modes
pub mod Second
pub mod Ints
pub mod One
pub mod Shapes
