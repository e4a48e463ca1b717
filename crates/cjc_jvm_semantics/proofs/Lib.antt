pub mod Longer
pub mod Turns
-- Lemmas of lower crates, for those above.
pub use Rattle.cjc_code.proofs.BytesBools as BytesBools
pub use Rattle.cjc_code.proofs.BytesGets as BytesGets
pub use Rattle.cjc_code.proofs.BytesOptions as BytesOptions
