-- What crates above take of LowerExportFile.
pub use Rattle.cjc_components.specs.LowerExportFile.declared as declared
