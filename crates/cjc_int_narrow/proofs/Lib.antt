pub mod Moves
pub mod Cases
pub mod Opcodes
pub mod Puts
pub mod Walks
pub mod Pairs
pub mod Whole
pub mod Tables
pub mod Stands
pub mod AreNumbers
pub mod OneLeast
pub mod Near
pub mod Values
-- Lemmas of lower crates, for those above.
pub use Rattle.cjc_narrow.proofs.TypesAscending as TypesAscending
pub use Rattle.cjc_narrow.proofs.TypesLowered as TypesLowered
pub use Rattle.cjc_narrow.proofs.TypesStanding as TypesStanding
pub use Rattle.cjc_int_mode.proofs.Named as IntModeNamed
pub use Rattle.cjc_narrow.proofs.PairsLaws.Roles as NarrowRoles
pub use Rattle.cjc_int_proof.proofs.LayoutPlaces as LayoutPlaces
pub use Rattle.cjc_int_proof.proofs.Forms as IntProofForms
pub use Rattle.cjc_int_proof.proofs.Said as IntProofSaid
