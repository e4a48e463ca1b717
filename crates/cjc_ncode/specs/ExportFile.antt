-- What crates above take of LowerExportFile.
pub use Rattle.cjc_card_semantics.specs.LowerExportFile.declared as declared
