-- What crates above take of LowerCheckRules.
pub use Rattle.cjc_components.specs.LowerCheckRules.Complete as Complete
