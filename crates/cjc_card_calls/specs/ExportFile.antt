-- What crates above take of ExportFile.
pub use Rattle.cjc_card_frame.specs.ExportFile.Members as Members
pub use Rattle.cjc_card_frame.specs.ExportFile.Supers as Supers
pub use Rattle.cjc_card_frame.specs.ExportFile.declared as declared
