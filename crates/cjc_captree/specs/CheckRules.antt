-- What crates above take of CheckRules.
pub use Rattle.cjc_classes.specs.CheckRules.Consistent as Consistent
