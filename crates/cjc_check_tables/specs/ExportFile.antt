-- What crates above take of LowerExportFile.
pub use Rattle.cjc_check_rules.specs.LowerExportFile.ExportFile as ExportFile
pub use Rattle.cjc_check_rules.specs.LowerExportFile.Writable as Writable
pub use Rattle.cjc_check_rules.specs.LowerExportFile.Written as Written
pub use Rattle.cjc_check_rules.specs.LowerExportFile.declared as declared
