-- What the code and its proofs keep for themselves; a reader of the contracts may pass over it.
pub mod Pairs
pub mod Scratch
