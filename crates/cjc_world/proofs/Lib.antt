pub mod Places
pub mod Named
pub mod Counted
pub mod Rising
pub mod Settled
pub mod Cycles
pub mod Circles
pub mod Subtypes
pub mod Fronts
pub mod Languages
pub mod Heads
pub mod Indexing
pub mod Upwards
pub mod Sorted
pub mod Unbroken
pub mod Joined
pub mod ByPlace
pub mod Trees
pub mod Filling
pub mod Marking
pub mod Piecing
pub mod Noted
pub mod Positions
pub mod Asking
pub mod Adding
pub mod Gets
pub mod Walked
pub mod Stepping
pub mod Once
pub mod Called
pub mod UpwardLaws
-- Lemmas of lower crates, for those above.
pub use Rattle.cjc_bytes.proofs.Bools as BytesBools
pub use Rattle.cjc_bytes.proofs.BrokenRules as BytesBrokenRules
pub use Rattle.cjc_bytes.proofs.Firsts as BytesFirsts
pub use Rattle.cjc_bytes.proofs.Gets as BytesGets
pub use Rattle.cjc_bytes.proofs.Laws as BytesLaws
pub use Rattle.cjc_bytes.proofs.Lists as BytesLists
pub use Rattle.cjc_bytes.proofs.Numbers as BytesNumbers
pub use Rattle.cjc_bytes.proofs.Quantified as BytesQuantified
pub use Rattle.cjc_classfile.proofs.Fitting as ClassFileFitting
pub use Rattle.cjc_export.proofs.Numbering as ExportFileNumbering
pub use Rattle.cjc_export.proofs.Rooted as ExportFileRooted
pub use Rattle.cjc_export.proofs.Upwards as ExportFileUpwards
pub use Rattle.cjc_export.proofs.Worth as ExportFileWorth
