pub mod Forms
pub mod Near
pub mod Walks
pub mod Whole
