-- What crates above take of Clinit.
pub use Rattle.cjc_pairing.specs.Clinit.Image as Image
