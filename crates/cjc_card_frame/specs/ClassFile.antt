-- What crates above take of ClassFile.
pub use Rattle.cjc_jvm_step.specs.ClassFile.declared as declared
