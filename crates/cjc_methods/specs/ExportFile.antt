-- What crates above take of ExportFile.
pub use Rattle.cjc_check.specs.ExportFile.Writable as Writable
pub use Rattle.cjc_check.specs.ExportFile.Written as Written
pub use Rattle.cjc_check.specs.ExportFile.declared as declared
