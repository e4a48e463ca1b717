-- What crates above take of JvmSemantics.
pub use Rattle.cjc_jvm_step.specs.JvmSemantics.Linked as Linked
pub use Rattle.cjc_jvm_step.specs.JvmSemantics.OnePackage as OnePackage
