-- What crates above take of Clinit.
pub use Rattle.cjc_classes.specs.Clinit.Image as Image
pub use Rattle.cjc_classes.specs.Clinit.Rules as Rules
