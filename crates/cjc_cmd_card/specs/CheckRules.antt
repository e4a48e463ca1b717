-- What crates above take of CheckRules.
pub use Rattle.cjc_pairing.specs.CheckRules.Complete as Complete
pub use Rattle.cjc_pairing.specs.CheckRules.Consistent as Consistent
