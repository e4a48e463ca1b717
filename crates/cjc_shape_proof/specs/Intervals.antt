-- What crates above take of Intervals.
pub use Rattle.cjc_check_proof.specs.Intervals.Frames as Frames
pub use Rattle.cjc_check_proof.specs.Intervals.Tables as Tables
