pub mod BytecodeLaws
pub mod MachineLaws
-- Lemmas of lower crates, for those above.
pub use Rattle.cjc_export.proofs.BytesBools as BytesBools
pub use Rattle.cjc_export.proofs.BytesGets as BytesGets
pub use Rattle.cjc_export.proofs.BytesIntegers as BytesIntegers
pub use Rattle.cjc_export.proofs.BytesNumbers as BytesNumbers
pub use Rattle.cjc_export.proofs.BytesPlain as BytesPlain
pub use Rattle.cjc_range.proofs.WordsLaws.Words as RangeWords
pub use Rattle.cjc_capread.proofs.DecoderLaws.Tables as CapReadTables
pub use Rattle.cjc_capread.proofs.Decoding as CapReadDecoding
pub use Rattle.cjc_capread.proofs.Headers as CapReadHeaders
