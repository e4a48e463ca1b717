pub mod RunningLaws
pub mod ReportLaws
-- Lemmas of lower crates, for those above.
pub use Rattle.cjc_shelf.proofs.CommandLaws.Each as ShelfEach
pub use Rattle.cjc_shelf.proofs.CommandLaws.Gathering as ShelfGathering
pub use Rattle.cjc_shelf.proofs.CommandLaws.Judging as ShelfJudging
