mod Told
mod OneAnswer
pub mod ConversionLaws
-- Lemmas of lower crates, for those above.
pub use Rattle.cjc_shape_proof.proofs.JudgeFirsts as JudgeFirsts
pub use Rattle.cjc_shape_proof.proofs.ShapeOne as ShapeOne
pub use Rattle.cjc_shape_proof.proofs.ShapeSecond as ShapeSecond
