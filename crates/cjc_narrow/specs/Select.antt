pub mod Select
pub mod Forms
pub mod Working
