-- What crates above take of CheckRules.
pub use Rattle.cjc_components.specs.CheckRules.Codes as Codes
pub use Rattle.cjc_components.specs.CheckRules.Complete as Complete
pub use Rattle.cjc_components.specs.CheckRules.Consistent as Consistent
pub use Rattle.cjc_components.specs.CheckRules.Described as Described
pub use Rattle.cjc_components.specs.CheckRules.declared as declared
