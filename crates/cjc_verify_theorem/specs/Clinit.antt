-- What crates above take of Clinit.
pub use Rattle.cjc_theorem.specs.Clinit.Image as Image
