-- What crates above take of ExportFile.
pub use Rattle.cjc_convert.specs.ExportFile.ExportFile as ExportFile
pub use Rattle.cjc_convert.specs.ExportFile.Members as Members
pub use Rattle.cjc_convert.specs.ExportFile.Package as Package
pub use Rattle.cjc_convert.specs.ExportFile.Pool as Pool
pub use Rattle.cjc_convert.specs.ExportFile.Root as Root
pub use Rattle.cjc_convert.specs.ExportFile.declared as declared
