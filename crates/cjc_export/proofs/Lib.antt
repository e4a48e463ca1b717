pub mod Short
pub mod Grown
pub mod Adding
pub mod Putting
pub mod Numbering
pub mod Rooted
pub mod Fitting
pub mod Spelling
pub mod Worth
pub mod Entries
pub mod Spelt
pub mod Upwards
-- Lemmas of lower crates, for those above.
pub use Rattle.cjc_bytes.proofs.Bools as BytesBools
pub use Rattle.cjc_bytes.proofs.BrokenRules as BytesBrokenRules
pub use Rattle.cjc_bytes.proofs.Firsts as BytesFirsts
pub use Rattle.cjc_bytes.proofs.Gets as BytesGets
pub use Rattle.cjc_bytes.proofs.Integers as BytesIntegers
pub use Rattle.cjc_bytes.proofs.Lists as BytesLists
pub use Rattle.cjc_bytes.proofs.Numbers as BytesNumbers
pub use Rattle.cjc_bytes.proofs.Options as BytesOptions
pub use Rattle.cjc_bytes.proofs.Plain as BytesPlain
