-- What crates above take of LowerFlow.
pub use Rattle.cjc_judge.specs.LowerFlow.Tests as Tests
pub use Rattle.cjc_judge.specs.LowerFlow.declared as declared
