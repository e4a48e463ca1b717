-- What crates above take of CheckRules.
pub use Rattle.cjc_theorem.specs.CheckRules.Complete as Complete
pub use Rattle.cjc_theorem.specs.CheckRules.Consistent as Consistent
