-- What crates above take of cjc_check_rules.
pub use Rattle.cjc_check_rules.specs.Complete as Complete
pub use Rattle.cjc_check_rules.specs.Consistent as Consistent
pub use Rattle.cjc_check_rules.specs.declared as declared
