pub mod ClassesLaws
pub mod CodeLaws
pub mod TokensLaws
pub mod FlagsLaws
pub mod ConsistentLaws
pub mod PromisesLaws
pub mod LimitsLaws
-- Lemmas of lower crates, for those above.
pub use Rattle.cjc_bytes.proofs.Bools as BytesBools
pub use Rattle.cjc_bytes.proofs.Gets as BytesGets
pub use Rattle.cjc_token_proof.proofs.WorldProofFields as WorldProofFields
pub use Rattle.cjc_token_proof.proofs.WorldProofOwn as WorldProofOwn
pub use Rattle.cjc_token_proof.proofs.WorldProofScripts as WorldProofScripts
pub use Rattle.cjc_token_proof.proofs.WorldProofSelects as WorldProofSelects
pub use Rattle.cjc_token_proof.proofs.WorldProofSpecials as WorldProofSpecials
pub use Rattle.cjc_token_proof.proofs.WorldProofTypes as WorldProofTypes
pub use Rattle.cjc_token_proof.proofs.WorldProofPackages as WorldProofPackages
pub use Rattle.cjc_token_proof.proofs.WorldProofPlaces as WorldProofPlaces
pub use Rattle.cjc_token_proof.proofs.WorldProofValues as WorldProofValues
pub use Rattle.cjc_token_proof.proofs.WorldProofExceptions as WorldProofExceptions
pub use Rattle.cjc_token_proof.proofs.WorldProofRules as WorldProofRules
pub use Rattle.cjc_token_proof.proofs.WorldProofSolid as WorldProofSolid
pub use Rattle.cjc_components.proofs.EmitSaid as EmitSaid
pub use Rattle.cjc_pool.proofs.PoolLaws.Entries as PoolEntries
pub use Rattle.cjc_pool.proofs.PoolLaws.Keys as PoolKeys
pub use Rattle.cjc_token_proof.proofs.ComponentsLaws.Apart as TokenProofApart
pub use Rattle.cjc_token_proof.proofs.ComponentsLaws.Starts as TokenProofStarts
pub use Rattle.cjc_token_proof.proofs.ComponentsLaws.Tests as TokenProofTests
pub use Rattle.cjc_token_proof.proofs.TablesLaws.Above as TokenProofAbove
pub use Rattle.cjc_token_proof.proofs.TablesLaws.Clean as TokenProofClean
pub use Rattle.cjc_token_proof.proofs.TablesLaws.Filed as TokenProofFiled
pub use Rattle.cjc_token_proof.proofs.TablesLaws.Groups as TokenProofGroups
pub use Rattle.cjc_token_proof.proofs.TablesLaws.Lists as TokenProofLists
pub use Rattle.cjc_token_proof.proofs.TablesLaws.Order as TokenProofOrder
pub use Rattle.cjc_token_proof.proofs.TablesLaws.Rooted as TokenProofRooted
pub use Rattle.cjc_token_proof.proofs.WrittenSends.Operations as TokenProofWrittenSendsOperations
pub use Rattle.cjc_narrow_proof.proofs.LawsLaws.WordTypes as NarrowProofWordTypes
pub use Rattle.cjc_narrow_proof.proofs.SelectedLaws.Cuts as NarrowProofCuts
pub use Rattle.cjc_narrow_proof.proofs.SelectedLaws.Numbers as NarrowProofNumbers
pub use Rattle.cjc_narrow_proof.proofs.SelectedLaws.Said as NarrowProofSaid
pub use Rattle.cjc_narrow_proof.proofs.SelectedLaws.Words as NarrowProofWords
pub use Rattle.cjc_narrow_proof.proofs.TablesLaws.Placed as NarrowProofPlaced
pub use Rattle.cjc_narrow_proof.proofs.TablesLaws.Spelt as NarrowProofSpelt
