-- What crates above take of LowerExportFile.
pub use Rattle.cjc_world.specs.LowerExportFile.ExportFile as ExportFile
pub use Rattle.cjc_world.specs.LowerExportFile.declared as declared
