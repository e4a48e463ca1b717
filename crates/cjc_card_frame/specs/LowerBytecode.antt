-- What crates above take of LowerBytecode.
pub use Rattle.cjc_jvm_step.specs.LowerBytecode.PackageCodes as PackageCodes
pub use Rattle.cjc_jvm_step.specs.LowerBytecode.declared as declared
