-- What crates above take of LowerCheckRules.
pub use Rattle.cjc_check_index.specs.LowerCheckRules.Complete as Complete
pub use Rattle.cjc_check_index.specs.LowerCheckRules.Consistent as Consistent
pub use Rattle.cjc_check_index.specs.LowerCheckRules.Listed as Listed
pub use Rattle.cjc_check_index.specs.LowerCheckRules.Spots as Spots
pub use Rattle.cjc_check_index.specs.LowerCheckRules.declared as declared
