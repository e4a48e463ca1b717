-- What crates above take of ClassFile.
pub use Rattle.cjc_jvm_semantics.specs.ClassFile.declared as declared
