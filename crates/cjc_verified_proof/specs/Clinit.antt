-- What crates above take of Clinit.
pub use Rattle.cjc_verify.specs.Clinit.Image as Image
