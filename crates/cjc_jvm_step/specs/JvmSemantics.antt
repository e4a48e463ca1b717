-- What crates above take of cjc_jvm_semantics.
pub use Rattle.cjc_jvm_semantics.specs.Linked as Linked
pub use Rattle.cjc_jvm_semantics.specs.OnePackage as OnePackage
