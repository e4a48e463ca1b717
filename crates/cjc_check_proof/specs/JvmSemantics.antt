-- What crates above take of JvmSemantics.
pub use Rattle.cjc_pool.specs.JvmSemantics.Linked as Linked
pub use Rattle.cjc_pool.specs.JvmSemantics.OnePackage as OnePackage
