pub mod WholeRuns
pub mod SoundRuns
pub mod FairExports
pub mod FairWriting
pub mod AlikeLaws
-- Lemmas of lower crates, for those above.
pub use Rattle.cjc_vtable.proofs.Agrees as VTableAgrees
pub use Rattle.cjc_vtable.proofs.Asked as VTableAsked
pub use Rattle.cjc_vtable.proofs.Assigned as VTableAssigned
pub use Rattle.cjc_vtable.proofs.Calls as VTableCalls
pub use Rattle.cjc_vtable.proofs.Filed as VTableFiled
pub use Rattle.cjc_vtable.proofs.Given as VTableGiven
pub use Rattle.cjc_vtable.proofs.Once as VTableOnce
pub use Rattle.cjc_vtable.proofs.Read as VTableRead
pub use Rattle.cjc_vtable.proofs.Told as VTableTold
pub use Rattle.cjc_vtable.proofs.Worlds as VTableWorlds
pub use Rattle.cjc_narrow_proof.proofs.LawsLaws.Instructions as NarrowProofInstructions
pub use Rattle.cjc_narrow_proof.proofs.LawsLaws.Own as NarrowProofOwn
pub use Rattle.cjc_narrow_proof.proofs.TablesLaws.Spelt as NarrowProofSpelt
pub use Rattle.cjc_shape_proof.proofs.JudgeFirsts as JudgeFirsts
pub use Rattle.cjc_shape_proof.proofs.ShapeLimited as ShapeLimited
pub use Rattle.cjc_shape_proof.proofs.ShapeSound as ShapeSound
pub use Rattle.cjc_shape_proof.proofs.FindsLaws.Descs as ShapeProofDescs
pub use Rattle.cjc_shape_proof.proofs.WrittenLaws.Files as ShapeProofFiles
pub use Rattle.cjc_shape_proof.proofs.WrittenLaws.OfFiles as ShapeProofOfFiles
pub use Rattle.cjc_shape_proof.proofs.WrittenLaws.FittingLaws.Initialisers as ShapeProofInitialisers
pub use Rattle.cjc_shape_proof.proofs.WrittenLaws.FittingLaws.Interfaces as ShapeProofInterfaces
pub use Rattle.cjc_shape_proof.proofs.WrittenLaws.FittingLaws.Meant as ShapeProofMeant
pub use Rattle.cjc_shape_proof.proofs.WrittenLaws.FittingLaws.Order as ShapeProofOrder
pub use Rattle.cjc_shape_proof.proofs.WrittenLaws.Lines as ShapeProofLines
pub use Rattle.cjc_shape_proof.proofs.WrittenLaws.PackageNames as ShapeProofPackageNames
pub use Rattle.cjc_shape_proof.proofs.WrittenLaws.Subtypes as ShapeProofSubtypes
pub use Rattle.cjc_shape_proof.proofs.WrittenLaws.Tokens as ShapeProofTokens
pub use Rattle.cjc_shape_proof.proofs.WrittenLaws.Worlds as ShapeProofWorlds
