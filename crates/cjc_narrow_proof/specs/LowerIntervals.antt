-- What crates above take of cjc_intervals.
pub use Rattle.cjc_intervals.specs.Frames as Frames
pub use Rattle.cjc_intervals.specs.Tables as Tables
