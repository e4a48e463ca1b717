pub mod Listed
pub mod Reached
pub mod Maps
pub mod Called
