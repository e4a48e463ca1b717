-- What crates above take of LowerCheckProof.
pub use Rattle.cjc_shape_proof.specs.LowerCheckProof.Code as Code
pub use Rattle.cjc_shape_proof.specs.LowerCheckProof.Limits as Limits
