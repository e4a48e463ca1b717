-- What the code and its proofs keep for themselves; a reader of the contracts may pass over it.
pub mod Places
pub mod Names
pub mod Numbers
pub mod Members
pub mod Tables
pub mod Asked
pub mod Known
pub mod Spots
pub mod Steps
pub mod Unchecked
