pub mod Bodies
pub mod Working
