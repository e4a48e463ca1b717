pub mod FilesLaws
-- Lemmas of lower crates, for those above.
pub use Rattle.cjc_group.proofs.Decided as GroupDecided
