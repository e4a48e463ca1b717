-- What crates above take of LowerCheckRules.
pub use Rattle.cjc_components.specs.LowerCheckRules.Complete as Complete
pub use Rattle.cjc_components.specs.LowerCheckRules.Consistent as Consistent
pub use Rattle.cjc_components.specs.LowerCheckRules.Listed as Listed
pub use Rattle.cjc_components.specs.LowerCheckRules.Spots as Spots
pub use Rattle.cjc_components.specs.LowerCheckRules.declared as declared
