-- What crates above take of Bytecode.
pub use Rattle.cjc_jvm_semantics.specs.Bytecode.PackageCodes as PackageCodes
pub use Rattle.cjc_jvm_semantics.specs.Bytecode.declared as declared
