-- What crates above take of LowerExportFile.
pub use Rattle.cjc_types.specs.LowerExportFile.Members as Members
pub use Rattle.cjc_types.specs.LowerExportFile.declared as declared
