pub mod FolderLaws
pub mod CheckingLaws
-- Lemmas of lower crates, for those above.
pub use Rattle.cjc_bytes.proofs.Bools as BytesBools
pub use Rattle.cjc_bytes.proofs.BrokenRules as BytesBrokenRules
pub use Rattle.cjc_bytes.proofs.Firsts as BytesFirsts
pub use Rattle.cjc_bytes.proofs.Laws as BytesLaws
pub use Rattle.cjc_bytes.proofs.Plain as BytesPlain
pub use Rattle.cjc_shelf.proofs.CommandLaws.Gathering as ShelfGathering
pub use Rattle.cjc_shelf.proofs.CommandLaws.Judging as ShelfJudging
pub use Rattle.cjc_list.proofs.Decided as ListDecided
