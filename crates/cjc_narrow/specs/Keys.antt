pub mod Index
pub mod Working
