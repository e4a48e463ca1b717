-- What crates above take of LowerBytecode.
pub use Rattle.cjc_jvm_semantics.specs.LowerBytecode.Decoded as Decoded
pub use Rattle.cjc_jvm_semantics.specs.LowerBytecode.Jvm as Jvm
pub use Rattle.cjc_jvm_semantics.specs.LowerBytecode.PackageCodes as PackageCodes
pub use Rattle.cjc_jvm_semantics.specs.LowerBytecode.declared as declared
