pub mod Begins
pub mod Followed
pub mod Lists
pub mod OneTurn
pub mod Packages
