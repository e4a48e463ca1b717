pub mod CountsLaws
pub mod LinksLaws
pub mod ExportedLaws
pub mod MembersLaws
-- Lemmas of lower crates, for those above.
pub use Rattle.cjc_check_index.proofs.ImportedLaws.Edges as CheckIndexEdges
