-- What crates above take of Bytecode.
pub use Rattle.cjc_types.specs.Bytecode.PackageCodes as PackageCodes
pub use Rattle.cjc_types.specs.Bytecode.ReadLaws as ReadLaws
pub use Rattle.cjc_types.specs.Bytecode.declared as declared
