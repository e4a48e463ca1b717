-- What crates above take of CheckRules.
pub use Rattle.cjc_cmd_verify.specs.CheckRules.Consistent as Consistent
