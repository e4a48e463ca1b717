-- What crates above take of ExportFile.
pub use Rattle.cjc_group.specs.ExportFile.ExportFile as ExportFile
pub use Rattle.cjc_group.specs.ExportFile.declared as declared
