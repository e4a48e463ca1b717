-- What crates above take of cjc_export.
pub use Rattle.cjc_export.specs.ExportFile as ExportFile
pub use Rattle.cjc_export.specs.Members as Members
pub use Rattle.cjc_export.specs.Supers as Supers
pub use Rattle.cjc_export.specs.Written as Written
pub use Rattle.cjc_export.specs.declared as declared
