pub mod ClassInfo
pub mod DirectoryLaws
pub mod TypeInfo
pub mod DescriptorLaws
pub mod PoolEntries
pub mod KeyTokens
-- Lemmas of lower crates, for those above.
pub use Rattle.cjc_bytes.proofs.Bools as BytesBools
pub use Rattle.cjc_bytes.proofs.Firsts as BytesFirsts
pub use Rattle.cjc_bytes.proofs.Gets as BytesGets
pub use Rattle.cjc_bytes.proofs.Numbers as BytesNumbers
pub use Rattle.cjc_bytes.proofs.Quantified as BytesQuantified
pub use Rattle.cjc_components.proofs.ClassOrderDeclared as ClassOrderDeclared
pub use Rattle.cjc_tokens.proofs.Facts as TokensFacts
pub use Rattle.cjc_tokens.proofs.Steps as TokensSteps
pub use Rattle.cjc_components.proofs.VTableNumbers as VTableNumbers
pub use Rattle.cjc_components.proofs.ClinitOneImage as ClinitOneImage
