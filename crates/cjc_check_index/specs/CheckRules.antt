-- What crates above take of cjc_check_rules.
pub use Rattle.cjc_check_rules.specs.Classes as Classes
pub use Rattle.cjc_check_rules.specs.Complete as Complete
pub use Rattle.cjc_check_rules.specs.Spots as Spots
