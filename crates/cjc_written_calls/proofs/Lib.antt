mod Extents
mod Held
mod Fitting
pub mod Called
mod Objects
pub mod Knowing
pub mod Ids
pub mod Written
pub mod Known
pub mod Reached
pub mod Tokens
pub mod Receivers
pub mod Found
pub mod Towers
pub mod Files
pub mod Facts
pub mod SupertypeTrees
mod Tables
pub mod Offsets
mod HeadersRead
pub mod Begins
mod Orders
mod Words
mod Got
pub mod Placed
