-- What crates above take of CheckRules.
pub use Rattle.cjc_card_link.specs.CheckRules.Complete as Complete
pub use Rattle.cjc_card_link.specs.CheckRules.Consistent as Consistent
pub use Rattle.cjc_card_link.specs.CheckRules.Listed as Listed
pub use Rattle.cjc_card_link.specs.CheckRules.Spots as Spots
pub use Rattle.cjc_card_link.specs.CheckRules.declared as declared
