-- What crates above take of CheckRules.
pub use Rattle.cjc_captree.specs.CheckRules.Consistent as Consistent
