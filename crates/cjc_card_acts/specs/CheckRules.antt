-- What crates above take of cjc_check_rules.
pub use Rattle.cjc_check_rules.specs.Instructions as Instructions
pub use Rattle.cjc_check_rules.specs.Spots as Spots
