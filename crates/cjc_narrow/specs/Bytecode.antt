-- What crates above take of Bytecode.
pub use Rattle.cjc_ncode.specs.Bytecode.Decoded as Decoded
pub use Rattle.cjc_ncode.specs.Bytecode.PackageCodes as PackageCodes
pub use Rattle.cjc_ncode.specs.Bytecode.declared as declared
