pub mod Opcodes
pub mod Untils
pub mod Decoding
pub mod Headers
pub mod DecoderLaws
-- Lemmas of lower crates, for those above.
pub use Rattle.cjc_bytes.proofs.Bools as BytesBools
pub use Rattle.cjc_bytes.proofs.Firsts as BytesFirsts
pub use Rattle.cjc_bytes.proofs.Gets as BytesGets
pub use Rattle.cjc_bytes.proofs.Numbers as BytesNumbers
pub use Rattle.cjc_bytes.proofs.Writers as BytesWriters
