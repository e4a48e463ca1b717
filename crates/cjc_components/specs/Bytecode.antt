-- What crates above take of Bytecode.
pub use Rattle.cjc_clinit.specs.Bytecode.Decoded as Decoded
pub use Rattle.cjc_clinit.specs.Bytecode.Jvm as Jvm
pub use Rattle.cjc_clinit.specs.Bytecode.PackageCodes as PackageCodes
pub use Rattle.cjc_clinit.specs.Bytecode.ReadLaws as ReadLaws
pub use Rattle.cjc_clinit.specs.Bytecode.declared as declared
