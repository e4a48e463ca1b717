-- What crates above take of Clinit.
pub use Rattle.cjc_components.specs.Clinit.Image as Image
