-- What crates above take of Intervals.
pub use Rattle.cjc_flow.specs.Intervals.Bounds as Bounds
pub use Rattle.cjc_flow.specs.Intervals.Frames as Frames
pub use Rattle.cjc_flow.specs.Intervals.Steps as Steps
pub use Rattle.cjc_flow.specs.Intervals.Tables as Tables
