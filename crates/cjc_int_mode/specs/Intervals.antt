-- What crates above take of LowerIntervals.
pub use Rattle.cjc_flow.specs.LowerIntervals.Bounds as Bounds
pub use Rattle.cjc_flow.specs.LowerIntervals.Frames as Frames
pub use Rattle.cjc_flow.specs.LowerIntervals.Steps as Steps
