-- What crates above take of CheckRules.
pub use Rattle.cjc_card_calls.specs.CheckRules.Complete as Complete
pub use Rattle.cjc_card_calls.specs.CheckRules.Consistent as Consistent
pub use Rattle.cjc_card_calls.specs.CheckRules.Listed as Listed
pub use Rattle.cjc_card_calls.specs.CheckRules.Spots as Spots
pub use Rattle.cjc_card_calls.specs.CheckRules.declared as declared
