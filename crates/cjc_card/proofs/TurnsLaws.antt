pub mod Abroad
pub mod Leading
pub mod Receivers
pub mod Resumed
pub mod Tosses
