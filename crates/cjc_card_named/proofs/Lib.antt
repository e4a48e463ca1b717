pub mod Places
pub mod Selected
