-- What crates above take of JvmSemantics.
pub use Rattle.cjc_narrow.specs.JvmSemantics.Linked as Linked
pub use Rattle.cjc_narrow.specs.JvmSemantics.OnePackage as OnePackage
