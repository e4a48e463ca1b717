-- What crates above take of LowerBytecode.
pub use Rattle.cjc_card_frame.specs.LowerBytecode.PackageCodes as PackageCodes
pub use Rattle.cjc_card_frame.specs.LowerBytecode.declared as declared
