-- What crates above take of Bytecode.
pub use Rattle.cjc_components.specs.Bytecode.PackageCodes as PackageCodes
pub use Rattle.cjc_components.specs.Bytecode.declared as declared
