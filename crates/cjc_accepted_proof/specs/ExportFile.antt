-- What crates above take of ExportFile.
pub use Rattle.cjc_frames.specs.ExportFile.Members as Members
