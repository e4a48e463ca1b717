-- What crates above take of ExportFile.
pub use Rattle.cjc_tokens.specs.ExportFile.Writable as Writable
pub use Rattle.cjc_tokens.specs.ExportFile.declared as declared
