-- What crates above take of ExportFile.
pub use Rattle.cjc_cmd_convert.specs.ExportFile.ExportFile as ExportFile
