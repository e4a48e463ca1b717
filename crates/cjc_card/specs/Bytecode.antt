-- What crates above take of Bytecode.
pub use Rattle.cjc_card_frame.specs.Bytecode.Jvm as Jvm
pub use Rattle.cjc_card_frame.specs.Bytecode.PackageCodes as PackageCodes
pub use Rattle.cjc_card_frame.specs.Bytecode.declared as declared
