-- What crates above take of LowerShape.
pub use Rattle.cjc_shape_proof.specs.LowerShape.Prepared as Prepared
pub use Rattle.cjc_shape_proof.specs.LowerShape.Whole as Whole
