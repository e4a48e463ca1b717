-- What crates above take of Subset.
pub use Rattle.cjc_classes.specs.Subset.Checks as Checks
