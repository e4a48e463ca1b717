-- What crates above take of CheckRules.
pub use Rattle.cjc_cmd_check.specs.CheckRules.Consistent as Consistent
