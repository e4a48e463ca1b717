pub mod FirstPlaces
pub mod CodesLaws
pub mod JumpsLaws
-- Lemmas of lower crates, for those above.
pub use Rattle.cjc_check_rules.proofs.Arrays as CheckRulesArrays
