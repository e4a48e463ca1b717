-- What crates above take of LowerJudge.
pub use Rattle.cjc_shape_proof.specs.LowerJudge.Judged as Judged
pub use Rattle.cjc_shape_proof.specs.LowerJudge.Rules as Rules
pub use Rattle.cjc_shape_proof.specs.LowerJudge.Spelt as Spelt
pub use Rattle.cjc_shape_proof.specs.LowerJudge.Trees as Trees
pub use Rattle.cjc_shape_proof.specs.LowerJudge.declared as declared
