-- What crates above take of LowerJvmSemantics.
pub use Rattle.cjc_narrow.specs.LowerJvmSemantics.Linked as Linked
pub use Rattle.cjc_narrow.specs.LowerJvmSemantics.OnePackage as OnePackage
