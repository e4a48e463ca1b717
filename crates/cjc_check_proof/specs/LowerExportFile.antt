-- What crates above take of cjc_export.
pub use Rattle.cjc_world.specs.ExportFile.Members as Members
pub use Rattle.cjc_world.specs.ExportFile.Writable as Writable
pub use Rattle.cjc_world.specs.ExportFile.declared as declared
