pub mod OneAnswer
pub mod Tested
pub mod SubclassesLaws
-- Lemmas of lower crates, for those above.
pub use Rattle.cjc_cmd_check.proofs.ListDecided as ListDecided
pub use Rattle.cjc_cmd_check.proofs.CheckingLaws.OneAnswer as CmdCheckOneAnswer
