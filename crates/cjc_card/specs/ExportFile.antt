-- What crates above take of ExportFile.
pub use Rattle.cjc_card_frame.specs.ExportFile.declared as declared
