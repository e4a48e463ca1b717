-- What crates above take of Bytecode.
pub use Rattle.cjc_jvm_step.specs.Bytecode.Jvm as Jvm
pub use Rattle.cjc_jvm_step.specs.Bytecode.PackageCodes as PackageCodes
pub use Rattle.cjc_jvm_step.specs.Bytecode.declared as declared
