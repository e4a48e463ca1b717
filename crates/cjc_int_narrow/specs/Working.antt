-- What the code and its proofs keep for themselves; a reader of the contracts may pass over it.
pub mod Elements
pub mod Moves
pub mod Frames
pub mod Puts
pub mod Walks
pub mod Whole
