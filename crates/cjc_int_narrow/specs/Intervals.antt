-- What crates above take of LowerIntervals.
pub use Rattle.cjc_int_mode.specs.LowerIntervals.Frames as Frames
pub use Rattle.cjc_int_mode.specs.LowerIntervals.Tables as Tables
