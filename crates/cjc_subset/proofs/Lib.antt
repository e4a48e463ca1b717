pub mod Files
pub mod Codes
pub mod Any
pub mod Supertypes
pub mod Noted
pub mod Unmet
pub mod Callees
pub mod Fits
pub mod Clean
-- Lemmas of lower crates, for those above.
pub use Rattle.cjc_bytes.proofs.Gets as BytesGets
pub use Rattle.cjc_bytes.proofs.Lists as BytesLists
pub use Rattle.cjc_code.proofs.RangeWords as RangeWords
