pub mod Places
pub mod Above
