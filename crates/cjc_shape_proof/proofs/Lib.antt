pub mod FindsLaws
pub mod WrittenLaws
pub mod WritingLaws
-- Lemmas of lower crates, for those above.
pub use Rattle.cjc_bytes.proofs.BrokenRules as BytesBrokenRules
pub use Rattle.cjc_bytes.proofs.Gets as BytesGets
pub use Rattle.cjc_vtable.proofs.Filed as VTableFiled
pub use Rattle.cjc_vtable.proofs.Numbers as VTableNumbers
pub use Rattle.cjc_shape.proofs.FlowFirst as FlowFirst
pub use Rattle.cjc_shape.proofs.IntByModes as IntByModes
pub use Rattle.cjc_check_proof.proofs.PoolEntries as PoolEntries
pub use Rattle.cjc_check_proof.proofs.PoolKeys as PoolKeys
pub use Rattle.cjc_shape.proofs.ExportedOwn as ExportedOwn
pub use Rattle.cjc_check_proof.proofs.ClassesLaws.Lists as CheckProofLists
pub use Rattle.cjc_check_proof.proofs.LimitsLaws.Limits as CheckProofLimits
pub use Rattle.cjc_shape.proofs.JudgeEach as JudgeEach
pub use Rattle.cjc_shape.proofs.JudgeFirsts as JudgeFirsts
pub use Rattle.cjc_shape.proofs.JudgeOneRefusal as JudgeOneRefusal
pub use Rattle.cjc_shape.proofs.JudgePlaces as JudgePlaces
pub use Rattle.cjc_shape.proofs.JudgeAreNumbers as JudgeAreNumbers
pub use Rattle.cjc_shape.proofs.JudgedLaws.Called as ShapeCalled
pub use Rattle.cjc_shape.proofs.JudgedLaws.Selected as ShapeSelected
pub use Rattle.cjc_shape.proofs.JudgedLaws.Tokens as ShapeTokens
pub use Rattle.cjc_shape.proofs.PreparedLaws.Limited as ShapeLimited
pub use Rattle.cjc_shape.proofs.PreparedLaws.Sound as ShapeSound
pub use Rattle.cjc_shape.proofs.WholeLaws.Codes as ShapeCodes
pub use Rattle.cjc_shape.proofs.WholeLaws.Drafts as ShapeDrafts
pub use Rattle.cjc_shape.proofs.WholeLaws.Ints as ShapeInts
pub use Rattle.cjc_shape.proofs.WholeLaws.Modes as ShapeModes
pub use Rattle.cjc_shape.proofs.WholeLaws.One as ShapeOne
pub use Rattle.cjc_shape.proofs.WholeLaws.OneMode as ShapeOneMode
pub use Rattle.cjc_shape.proofs.WholeLaws.Second as ShapeSecond
pub use Rattle.cjc_shape.proofs.WholeLaws.Short as ShapeShort
