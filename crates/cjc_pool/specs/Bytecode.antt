-- What crates above take of Bytecode.
pub use Rattle.cjc_narrow.specs.Bytecode.Decoded as Decoded
pub use Rattle.cjc_narrow.specs.Bytecode.PackageCodes as PackageCodes
pub use Rattle.cjc_narrow.specs.Bytecode.declared as declared
