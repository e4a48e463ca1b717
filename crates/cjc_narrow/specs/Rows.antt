pub mod Resolved
pub mod Selected
pub mod Package
pub mod Forms
pub mod Names
pub mod Working
