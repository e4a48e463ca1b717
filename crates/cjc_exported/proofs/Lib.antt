pub mod ExportFile
pub mod ExportLaws
-- Lemmas of lower crates, for those above.
pub use Rattle.cjc_world.proofs.Cycles as WorldCycles
pub use Rattle.cjc_world.proofs.Subtypes as WorldSubtypes
pub use Rattle.cjc_world.proofs.UpwardLaws.Lines as WorldLines
