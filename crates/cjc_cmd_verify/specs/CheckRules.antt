-- What crates above take of CheckRules.
pub use Rattle.cjc_verify_theorem.specs.CheckRules.Consistent as Consistent
