pub mod LoweringLaws
pub mod WrittenCases
pub mod IntCode
-- Lemmas of lower crates, for those above.
pub use Rattle.cjc_code.proofs.BytesBools as BytesBools
pub use Rattle.cjc_code.proofs.BytesGets as BytesGets
pub use Rattle.cjc_code.proofs.BytesLists as BytesLists
pub use Rattle.cjc_code.proofs.BytesNumbers as BytesNumbers
pub use Rattle.cjc_code.proofs.OneCut as BytecodeOneCut
pub use Rattle.cjc_code.proofs.ReadLaws.Decoded as BytecodeDecoded
pub use Rattle.cjc_code.proofs.ReadLaws.Entries as BytecodeEntries
pub use Rattle.cjc_code.proofs.ReadLaws.Members as BytecodeMembers
pub use Rattle.cjc_card_semantics.proofs.CapReadDecoding as CapReadDecoding
pub use Rattle.cjc_card_semantics.proofs.CapReadHeaders as CapReadHeaders
pub use Rattle.cjc_card_semantics.proofs.BytecodeLaws.Follows as CardSemanticsFollows
pub use Rattle.cjc_card_semantics.proofs.BytecodeLaws.Longer as CardSemanticsLonger
