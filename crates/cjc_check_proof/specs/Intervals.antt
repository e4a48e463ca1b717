-- What crates above take of LowerIntervals.
pub use Rattle.cjc_narrow_proof.specs.LowerIntervals.Frames as Frames
pub use Rattle.cjc_narrow_proof.specs.LowerIntervals.Tables as Tables
