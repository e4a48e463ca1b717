-- Names, types and values of scripts, as both small machines read them.
pub mod Names
pub mod Types
pub mod Fits
