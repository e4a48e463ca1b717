pub mod Receivers
pub mod Tosses
pub mod Leading
