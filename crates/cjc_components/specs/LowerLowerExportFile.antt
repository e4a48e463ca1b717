-- What crates above take of ExportFile.
pub use Rattle.cjc_vtable.specs.ExportFile.declared as declared
