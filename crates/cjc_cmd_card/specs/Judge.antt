-- What crates above take of cjc_judge.
pub use Rattle.cjc_judge.specs.Rules as Rules
