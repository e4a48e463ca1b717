pub mod JudgedLaws
pub mod PreparedLaws
pub mod WholeLaws
-- Lemmas of lower crates, for those above.
pub use Rattle.cjc_judge.proofs.FlowFirst as FlowFirst
pub use Rattle.cjc_methods.proofs.Alike as MethodsByMode
pub use Rattle.cjc_methods.specs.Working.ByMode as SelectedByMode
pub use Rattle.cjc_int_narrow.proofs.IntProofForms as IntForms
pub use Rattle.cjc_methods.proofs.IntByModes as IntByModes
pub use Rattle.cjc_methods.proofs.IntRoom as IntRoom
pub use Rattle.cjc_exported.proofs.ExportLaws.Own as ExportedOwn
pub use Rattle.cjc_exported.proofs.ExportLaws.Tokens as ExportedTokens
pub use Rattle.cjc_judge.proofs.Each as JudgeEach
pub use Rattle.cjc_judge.proofs.Early as JudgeEarly
pub use Rattle.cjc_judge.proofs.Families as JudgeFamilies
pub use Rattle.cjc_judge.proofs.Firsts as JudgeFirsts
pub use Rattle.cjc_judge.proofs.Items as JudgeItems
pub use Rattle.cjc_judge.proofs.JointLaws as JudgeJointLaws
pub use Rattle.cjc_judge.proofs.OneRefusal as JudgeOneRefusal
pub use Rattle.cjc_judge.proofs.Places as JudgePlaces
pub use Rattle.cjc_int_narrow.proofs.AreNumbers as JudgeAreNumbers
