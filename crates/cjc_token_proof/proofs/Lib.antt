pub mod ComponentsLaws
pub mod ByToken
pub mod CallsLaws
pub mod TablesLaws
pub mod WrittenCalls
pub mod WrittenSends
-- Lemmas of lower crates, for those above.
pub use Rattle.cjc_bytes.proofs.Gets as BytesGets
pub use Rattle.cjc_bytes.proofs.Lists as BytesLists
pub use Rattle.cjc_bytes.proofs.Numbers as BytesNumbers
pub use Rattle.cjc_card_semantics.proofs.MachineLaws.Upwards as CardUpwards
pub use Rattle.cjc_vtable.proofs.Filed as VTableFiled
pub use Rattle.cjc_vtable.proofs.Numbers as VTableNumbers
pub use Rattle.cjc_ncode.proofs.LoweringLaws.Fetching as NCodeFetching
pub use Rattle.cjc_ncode.proofs.LoweringLaws.Packed as NCodePacked
pub use Rattle.cjc_world_proof.proofs.CallsLaws.Fields as WorldProofFields
pub use Rattle.cjc_world_proof.proofs.CallsLaws.Own as WorldProofOwn
pub use Rattle.cjc_world_proof.proofs.CallsLaws.Scripts as WorldProofScripts
pub use Rattle.cjc_world_proof.proofs.CallsLaws.Selects as WorldProofSelects
pub use Rattle.cjc_world_proof.proofs.CallsLaws.Specials as WorldProofSpecials
pub use Rattle.cjc_world_proof.proofs.CallsLaws.Types as WorldProofTypes
pub use Rattle.cjc_world_proof.proofs.InitialisersLaws.Initialisers as WorldProofInitialisers
pub use Rattle.cjc_world_proof.proofs.InitialisersLaws.Packages as WorldProofPackages
pub use Rattle.cjc_world_proof.proofs.InitialisersLaws.Places as WorldProofPlaces
pub use Rattle.cjc_world_proof.proofs.InitialisersLaws.Values as WorldProofValues
pub use Rattle.cjc_world_proof.proofs.SelectionLaws.Exceptions as WorldProofExceptions
pub use Rattle.cjc_world_proof.proofs.SelectionLaws.Rules as WorldProofRules
pub use Rattle.cjc_world_proof.proofs.SelectionLaws.Solid as WorldProofSolid
