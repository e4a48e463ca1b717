-- What crates above take of Clinit.
pub use Rattle.cjc_check_proof.specs.Clinit.Image as Image
