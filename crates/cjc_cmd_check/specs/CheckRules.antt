-- What crates above take of LowerCheckRules.
pub use Rattle.cjc_check.specs.LowerCheckRules.Consistent as Consistent
