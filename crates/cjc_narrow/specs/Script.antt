-- What crates above take of Script.
pub use Rattle.cjc_jvm_semantics.specs.Script.Sorts as Sorts
pub use Rattle.cjc_jvm_semantics.specs.Script.declared as declared
