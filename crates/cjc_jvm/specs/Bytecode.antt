-- What crates above take of Bytecode.
pub use Rattle.cjc_jvm_step.specs.Bytecode.PackageCodes as PackageCodes
