pub mod Least
pub mod Stays
