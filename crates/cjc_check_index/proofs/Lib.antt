pub mod LookupLaws
pub mod ImportedLaws
-- Lemmas of lower crates, for those above.
pub use Rattle.cjc_check_rules.proofs.BytesNumbers as BytesNumbers
pub use Rattle.cjc_check_rules.proofs.BytesOptions as BytesOptions
pub use Rattle.cjc_check_rules.proofs.BytesPlain as BytesPlain
pub use Rattle.cjc_check_rules.proofs.Firsts as CheckRulesFirsts
