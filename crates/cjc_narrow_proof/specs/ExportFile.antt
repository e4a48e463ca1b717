-- What crates above take of ExportFile.
pub use Rattle.cjc_world.specs.ExportFile.Writable as Writable
pub use Rattle.cjc_world.specs.ExportFile.Written as Written
pub use Rattle.cjc_world.specs.ExportFile.declared as declared
