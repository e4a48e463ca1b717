-- What crates above take of CheckRules.
pub use Rattle.cjc_classes.specs.CheckRules.Complete as Complete
pub use Rattle.cjc_classes.specs.CheckRules.Consistent as Consistent
pub use Rattle.cjc_classes.specs.CheckRules.Listed as Listed
pub use Rattle.cjc_classes.specs.CheckRules.Spots as Spots
pub use Rattle.cjc_classes.specs.CheckRules.declared as declared
