pub mod Laid
pub mod Limits
pub mod Working
