-- What crates above take of cjc_judge.
pub use Rattle.cjc_judge.specs.Judged as Judged
pub use Rattle.cjc_judge.specs.Modes as Modes
pub use Rattle.cjc_judge.specs.OutOfRange as OutOfRange
pub use Rattle.cjc_judge.specs.Rules as Rules
pub use Rattle.cjc_judge.specs.Spelt as Spelt
pub use Rattle.cjc_judge.specs.Trees as Trees
pub use Rattle.cjc_judge.specs.declared as declared
