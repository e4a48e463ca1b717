-- What crates above take of LowerExportFile.
pub use Rattle.cjc_world.specs.LowerExportFile.ExportFile as ExportFile
pub use Rattle.cjc_world.specs.LowerExportFile.Members as Members
pub use Rattle.cjc_world.specs.LowerExportFile.Writable as Writable
pub use Rattle.cjc_world.specs.LowerExportFile.Written as Written
pub use Rattle.cjc_world.specs.LowerExportFile.declared as declared
