pub mod Selected
pub mod Fields
