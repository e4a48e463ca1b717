-- What crates above take of ExportFile.
pub use Rattle.cjc_card_link.specs.ExportFile.ExportFile as ExportFile
pub use Rattle.cjc_card_link.specs.ExportFile.Members as Members
pub use Rattle.cjc_card_link.specs.ExportFile.Package as Package
pub use Rattle.cjc_card_link.specs.ExportFile.Pool as Pool
pub use Rattle.cjc_card_link.specs.ExportFile.Root as Root
pub use Rattle.cjc_card_link.specs.ExportFile.declared as declared
