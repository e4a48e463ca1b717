-- What crates above take of Bytecode.
pub use Rattle.cjc_card_link.specs.Bytecode.PackageCodes as PackageCodes
pub use Rattle.cjc_card_link.specs.Bytecode.declared as declared
