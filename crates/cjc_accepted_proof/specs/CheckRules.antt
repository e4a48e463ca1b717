-- What crates above take of LowerCheckRules.
pub use Rattle.cjc_card_acts.specs.LowerCheckRules.Codes as Codes
pub use Rattle.cjc_card_acts.specs.LowerCheckRules.Complete as Complete
pub use Rattle.cjc_card_acts.specs.LowerCheckRules.Described as Described
pub use Rattle.cjc_card_acts.specs.LowerCheckRules.Instructions as Instructions
pub use Rattle.cjc_card_acts.specs.LowerCheckRules.Spots as Spots
pub use Rattle.cjc_card_acts.specs.LowerCheckRules.declared as declared
