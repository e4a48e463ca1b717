-- What crates above take of LowerExportFile.
pub use Rattle.cjc_world.specs.LowerExportFile.Members as Members
pub use Rattle.cjc_world.specs.LowerExportFile.Supers as Supers
pub use Rattle.cjc_world.specs.LowerExportFile.Writable as Writable
pub use Rattle.cjc_world.specs.LowerExportFile.declared as declared
