pub mod Arrays
pub mod Beside
pub mod Firsts
pub mod Numbered
pub mod Starts
-- Lemmas of lower crates, for those above.
pub use Rattle.cjc_export.proofs.BytesBools as BytesBools
pub use Rattle.cjc_export.proofs.BytesGets as BytesGets
pub use Rattle.cjc_export.proofs.BytesLists as BytesLists
pub use Rattle.cjc_export.proofs.BytesNumbers as BytesNumbers
pub use Rattle.cjc_export.proofs.BytesOptions as BytesOptions
pub use Rattle.cjc_export.proofs.BytesPlain as BytesPlain
pub use Rattle.cjc_export.proofs.Upwards as ExportFileUpwards
