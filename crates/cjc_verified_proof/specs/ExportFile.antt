-- What crates above take of ExportFile.
pub use Rattle.cjc_world.specs.ExportFile.Members as Members
pub use Rattle.cjc_world.specs.ExportFile.Supers as Supers
pub use Rattle.cjc_world.specs.ExportFile.Writable as Writable
pub use Rattle.cjc_world.specs.ExportFile.declared as declared
