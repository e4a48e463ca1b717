-- What crates above take of Shape.
pub use Rattle.cjc_shape_proof.specs.Shape.Prepared as Prepared
pub use Rattle.cjc_shape_proof.specs.Shape.Whole as Whole
