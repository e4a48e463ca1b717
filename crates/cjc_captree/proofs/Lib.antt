pub mod ExtentsLaws
pub mod LimitsLaws
pub mod TreesLaws
-- Lemmas of lower crates, for those above.
pub use Rattle.cjc_classes.proofs.ClassOrderDeclared as ClassOrderDeclared
pub use Rattle.cjc_methods.proofs.LayoutsLaws.Kept as MethodsKept
