-- What crates above take of ExportFile.
pub use Rattle.cjc_check_index.specs.ExportFile.ExportFile as ExportFile
pub use Rattle.cjc_check_index.specs.ExportFile.Members as Members
pub use Rattle.cjc_check_index.specs.ExportFile.Package as Package
pub use Rattle.cjc_check_index.specs.ExportFile.Pool as Pool
pub use Rattle.cjc_check_index.specs.ExportFile.Root as Root
pub use Rattle.cjc_check_index.specs.ExportFile.declared as declared
