pub mod KeysLaws
pub mod RowsLaws
pub mod WrittenLaws
pub mod PairsLaws
pub mod SelectLaws
-- Lemmas of lower crates, for those above.
pub use Rattle.cjc_types.proofs.BytesBrokenRules as BytesBrokenRules
pub use Rattle.cjc_types.proofs.BytesGets as BytesGets
pub use Rattle.cjc_types.proofs.BytesQuantified as BytesQuantified
pub use Rattle.cjc_types.proofs.Ascending as TypesAscending
pub use Rattle.cjc_types.proofs.Few as TypesFew
pub use Rattle.cjc_types.proofs.Least as TypesLeast
pub use Rattle.cjc_types.proofs.TypeLaws.Lowered as TypesLowered
pub use Rattle.cjc_types.proofs.TypeLaws.Standing as TypesStanding
pub use Rattle.cjc_types.proofs.Typed as TypesTyped
