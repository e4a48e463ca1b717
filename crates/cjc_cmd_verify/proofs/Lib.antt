pub mod VerifyingLaws
-- Lemmas of lower crates, for those above.
pub use Rattle.cjc_cmd_card.proofs.CmdJvmOneAnswer as CmdJvmOneAnswer
pub use Rattle.cjc_cmd_card.proofs.CmdJvmGathers as CmdJvmGathers
