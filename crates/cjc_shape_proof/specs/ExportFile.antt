-- What crates above take of ExportFile.
pub use Rattle.cjc_tokens.specs.ExportFile.ExportFile as ExportFile
pub use Rattle.cjc_tokens.specs.ExportFile.Members as Members
pub use Rattle.cjc_tokens.specs.ExportFile.Package as Package
pub use Rattle.cjc_tokens.specs.ExportFile.Pool as Pool
pub use Rattle.cjc_tokens.specs.ExportFile.Root as Root
pub use Rattle.cjc_tokens.specs.ExportFile.Writable as Writable
pub use Rattle.cjc_tokens.specs.ExportFile.Written as Written
pub use Rattle.cjc_tokens.specs.ExportFile.declared as declared
