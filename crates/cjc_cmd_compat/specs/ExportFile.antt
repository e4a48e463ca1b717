-- What crates above take of ExportFile.
pub use Rattle.cjc_compat.specs.ExportFile.ExportFile as ExportFile
pub use Rattle.cjc_compat.specs.ExportFile.declared as declared
