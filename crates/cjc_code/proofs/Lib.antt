pub mod TableRows
pub mod Loops
pub mod OneCut
pub mod Marks
pub mod Places
pub mod RuleLaws
pub mod StartLaws
pub mod Decided
pub mod ReadLaws
-- Lemmas of lower crates, for those above.
pub use Rattle.cjc_bytes.proofs.Bools as BytesBools
pub use Rattle.cjc_bytes.proofs.Gets as BytesGets
pub use Rattle.cjc_bytes.proofs.Lists as BytesLists
pub use Rattle.cjc_bytes.proofs.Numbers as BytesNumbers
pub use Rattle.cjc_bytes.proofs.Options as BytesOptions
pub use Rattle.cjc_range.proofs.WordsLaws.Words as RangeWords
