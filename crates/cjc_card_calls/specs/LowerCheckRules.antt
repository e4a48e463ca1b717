-- What crates above take of LowerCheckRules.
pub use Rattle.cjc_card_link.specs.LowerCheckRules.Complete as Complete
