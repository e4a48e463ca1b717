-- What crates above take of ExportFile.
pub use Rattle.cjc_classes.specs.ExportFile.ExportFile as ExportFile
pub use Rattle.cjc_classes.specs.ExportFile.Writable as Writable
pub use Rattle.cjc_classes.specs.ExportFile.Written as Written
pub use Rattle.cjc_classes.specs.ExportFile.declared as declared
