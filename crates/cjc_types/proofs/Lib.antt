pub mod Above
pub mod Among
pub mod Answering
pub mod Ascending
pub mod Few
pub mod Filtered
pub mod Greater
pub mod Heights
pub mod Indexing
pub mod Joining
pub mod Least
pub mod Marked
pub mod Onwards
pub mod Parts
pub mod Passing
pub mod Reversed
pub mod Same
pub mod Telling
pub mod Typed
pub mod Upper
pub mod Wrong
pub mod TypeLaws
-- Lemmas of lower crates, for those above.
pub use Rattle.cjc_bytes.proofs.Bools as BytesBools
pub use Rattle.cjc_bytes.proofs.BrokenRules as BytesBrokenRules
pub use Rattle.cjc_bytes.proofs.DescriptorTypes as BytesDescriptorTypes
pub use Rattle.cjc_bytes.proofs.Gets as BytesGets
pub use Rattle.cjc_bytes.proofs.Integers as BytesIntegers
pub use Rattle.cjc_bytes.proofs.Lists as BytesLists
pub use Rattle.cjc_bytes.proofs.Numbers as BytesNumbers
pub use Rattle.cjc_bytes.proofs.Quantified as BytesQuantified
pub use Rattle.cjc_fixpoint.proofs.AllMarked as FixpointAllMarked
pub use Rattle.cjc_code.proofs.ReadLaws.Members as BytecodeMembers
pub use Rattle.cjc_world.proofs.Walked as WorldWalked
