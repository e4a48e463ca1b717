-- What crates above take of Bytecode.
pub use Rattle.cjc_card.specs.Bytecode.Jvm as Jvm
pub use Rattle.cjc_card.specs.Bytecode.PackageCodes as PackageCodes
