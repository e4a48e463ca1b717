-- What crates above take of Clinit.
pub use Rattle.cjc_verify_theorem.specs.Clinit.Image as Image
