-- What crates above take of cjc_shape_proof.
pub use Rattle.cjc_shape_proof.specs.Written as Written
