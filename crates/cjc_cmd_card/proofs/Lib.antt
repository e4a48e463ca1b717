pub mod RunningLaws
pub mod ReportLaws
-- Lemmas of lower crates, for those above.
pub use Rattle.cjc_cmd_check.proofs.BytesBools as BytesBools
pub use Rattle.cjc_cmd_check.proofs.BytesFirsts as BytesFirsts
pub use Rattle.cjc_cmd_check.proofs.BytesLaws as BytesLaws
pub use Rattle.cjc_cmd_check.proofs.BytesPlain as BytesPlain
pub use Rattle.cjc_cmd_jvm.proofs.ShelfEach as ShelfEach
pub use Rattle.cjc_cmd_jvm.proofs.ShelfGathering as ShelfGathering
pub use Rattle.cjc_cmd_jvm.proofs.ShelfJudging as ShelfJudging
pub use Rattle.cjc_pairing.proofs.ClinitOneImage as ClinitOneImage
pub use Rattle.cjc_shape.proofs.JudgeFirsts as JudgeFirsts
pub use Rattle.cjc_shape.proofs.JudgeItems as JudgeItems
pub use Rattle.cjc_shape.proofs.JudgeJointLaws as JudgeJointLaws
pub use Rattle.cjc_shape.proofs.JudgeOneRefusal as JudgeOneRefusal
pub use Rattle.cjc_cmd_jvm.proofs.ReportLaws.Free as CmdJvmFree
pub use Rattle.cjc_cmd_jvm.proofs.ReportLaws.OneAnswer as CmdJvmOneAnswer
pub use Rattle.cjc_cmd_jvm.proofs.RunningLaws.Gathers as CmdJvmGathers
pub use Rattle.cjc_cmd_check.proofs.CheckingLaws.OneAnswer as CmdCheckOneAnswer
pub use Rattle.cjc_cmd_check.proofs.CheckingLaws.Sizes as CmdCheckSizes
