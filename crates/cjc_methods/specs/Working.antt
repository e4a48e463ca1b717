-- What the code and its proofs keep for themselves; a reader of the contracts may pass over it.
pub mod Members
pub mod Places
pub mod Fields
pub mod Methods
pub mod Spots
pub mod ByMode
