pub mod Lists
mod Types
mod Nibbles
pub mod Refs
mod Offsets
pub mod There
pub mod Earlier
pub mod Supers
mod Installs
mod Tabled
pub mod Leaving
mod Listing
mod Exporting
mod Counting
mod Wholes
