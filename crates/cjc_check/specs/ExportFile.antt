-- What crates above take of ExportFile.
pub use Rattle.cjc_check_tables.specs.ExportFile.ExportFile as ExportFile
pub use Rattle.cjc_check_tables.specs.ExportFile.Writable as Writable
pub use Rattle.cjc_check_tables.specs.ExportFile.Written as Written
pub use Rattle.cjc_check_tables.specs.ExportFile.declared as declared
