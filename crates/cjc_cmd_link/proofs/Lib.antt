-- Lemmas of lower crates, for those above.
pub use Rattle.cjc_cmd_verify.proofs.CmdJvmOneAnswer as CmdJvmOneAnswer
pub use Rattle.cjc_cmd_verify.proofs.CmdJvmGathers as CmdJvmGathers
