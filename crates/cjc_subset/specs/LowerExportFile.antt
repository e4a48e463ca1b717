-- What crates above take of ExportFile.
pub use Rattle.cjc_world.specs.ExportFile.Members as Members
