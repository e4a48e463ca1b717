pub mod AllMarked
pub mod Filled
pub mod Gathering
pub mod Lattices
pub mod Listing
pub mod Marked
pub mod Runs
pub mod Shortening
pub mod Steps
pub mod Waiting
pub mod Walking
-- Lemmas of lower crates, for those above.
pub use Rattle.cjc_bytes.proofs.Bools as BytesBools
pub use Rattle.cjc_bytes.proofs.Gets as BytesGets
pub use Rattle.cjc_bytes.proofs.Numbers as BytesNumbers
