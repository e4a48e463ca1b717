-- What crates above take of ExportFile.
pub use Rattle.cjc_pairing.specs.ExportFile.ExportFile as ExportFile
pub use Rattle.cjc_pairing.specs.ExportFile.Members as Members
pub use Rattle.cjc_pairing.specs.ExportFile.Package as Package
pub use Rattle.cjc_pairing.specs.ExportFile.Pool as Pool
pub use Rattle.cjc_pairing.specs.ExportFile.Root as Root
pub use Rattle.cjc_pairing.specs.ExportFile.declared as declared
