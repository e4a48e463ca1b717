-- What the code and its proofs keep for themselves; a reader of the contracts may pass over it.
pub mod Arriving
pub mod Given
pub mod Kept
pub mod KeptLaws
pub mod RepeatLaws
pub mod Invariant
