-- What crates above take of LowerJudge.
pub use Rattle.cjc_theorem.specs.LowerJudge.Rules as Rules
pub use Rattle.cjc_theorem.specs.LowerJudge.Spelt as Spelt
pub use Rattle.cjc_theorem.specs.LowerJudge.declared as declared
