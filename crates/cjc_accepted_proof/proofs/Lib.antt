pub mod ArraysLaws
pub mod ArrayTypesLaws
pub mod NamesLaws
pub mod OffsetsLaws
pub mod InfosLaws
pub mod DescribedLaws
pub mod BelowLaws
pub mod RowsLaws
pub mod TypesLaws
pub mod KindsLaws
pub mod AcceptedLaws
pub mod SubtypesLaws
pub mod PairsLaws
pub mod CardedLaws
pub mod InstructionsLaws
pub mod BlocksLaws
pub mod FramesLaws
pub mod MethodsLaws
pub mod LeastLaws
pub mod ThisLaws
pub mod KeepsLaws
pub mod CatchesLaws
pub mod EdgesLaws
pub mod StepsLaws
pub mod EntryLaws
pub mod BesideLaws
-- Lemmas of lower crates, for those above.
pub use Rattle.cjc_check_proof.proofs.ClassesLaws.Lists as CheckProofLists
pub use Rattle.cjc_check_proof.proofs.ClassesLaws.Offsets as CheckProofOffsets
pub use Rattle.cjc_check_proof.proofs.ClassesLaws.Supers as CheckProofSupers
pub use Rattle.cjc_check_proof.proofs.ClassesLaws.Types as CheckProofTypes
pub use Rattle.cjc_check_proof.proofs.CodeLaws.OwnClasses as CheckProofOwnClasses
pub use Rattle.cjc_check_proof.proofs.LimitsLaws.Refs as CheckProofRefs
