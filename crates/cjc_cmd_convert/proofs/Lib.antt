pub mod ConversionLaws
pub mod PublicationLaws
-- Lemmas of lower crates, for those above.
pub use Rattle.cjc_shelf.proofs.BytesGets as BytesGets
pub use Rattle.cjc_shelf.proofs.BytesLaws as BytesLaws
pub use Rattle.cjc_shelf.proofs.CommandLaws.Ahead as ShelfAhead
pub use Rattle.cjc_shelf.proofs.CommandLaws.Judging as ShelfJudging
