pub mod Counted
pub mod Descriptors
pub mod Nibbles
pub mod Opcodes
-- Lemmas of lower crates, for those above.
pub use Rattle.cjc_frames.proofs.Least as FramesLeast
