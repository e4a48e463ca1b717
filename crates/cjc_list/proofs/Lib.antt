pub mod Loops
pub mod Items
pub mod Wholes
pub mod Texts
pub mod Decided
-- Lemmas of lower crates, for those above.
pub use Rattle.cjc_bytes.proofs.Lists as BytesLists
pub use Rattle.cjc_bytes.proofs.Options as BytesOptions
pub use Rattle.cjc_bytes.proofs.TextLaws as BytesTextLaws
pub use Rattle.cjc_bytes.proofs.WordLaws as BytesWordLaws
