-- What crates above take of Clinit.
pub use Rattle.cjc_judge.specs.Clinit.Image as Image
pub use Rattle.cjc_judge.specs.Clinit.Rules as Rules
