pub mod Begins
pub mod Followed
pub mod OneTurn
pub mod Spends
