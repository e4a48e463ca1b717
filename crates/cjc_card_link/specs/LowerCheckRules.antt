-- What crates above take of CheckRules.
pub use Rattle.cjc_check_index.specs.CheckRules.Complete as Complete
pub use Rattle.cjc_check_index.specs.CheckRules.Spots as Spots
