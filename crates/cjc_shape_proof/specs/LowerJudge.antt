-- What crates above take of LowerJudge.
pub use Rattle.cjc_shape.specs.LowerJudge.Judged as Judged
pub use Rattle.cjc_shape.specs.LowerJudge.Modes as Modes
pub use Rattle.cjc_shape.specs.LowerJudge.OutOfRange as OutOfRange
pub use Rattle.cjc_shape.specs.LowerJudge.Rules as Rules
pub use Rattle.cjc_shape.specs.LowerJudge.Spelt as Spelt
pub use Rattle.cjc_shape.specs.LowerJudge.Trees as Trees
pub use Rattle.cjc_shape.specs.LowerJudge.declared as declared
