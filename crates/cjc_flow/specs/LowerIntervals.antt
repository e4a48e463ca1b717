-- What crates above take of cjc_intervals.
pub use Rattle.cjc_intervals.specs.Bounds as Bounds
pub use Rattle.cjc_intervals.specs.Flow as Flow
pub use Rattle.cjc_intervals.specs.Frames as Frames
pub use Rattle.cjc_intervals.specs.Steps as Steps
pub use Rattle.cjc_intervals.specs.Tables as Tables
