pub mod Members
mod Ordered
mod Reach
mod Placing
mod Owned
pub mod Coded
mod Lacking
mod Same
mod Own
pub mod Again
pub mod Ownership
mod Spotted
pub mod Alike
pub mod Rooms
pub mod Fieldless
pub mod FieldlessInt
pub mod SameCode
mod Mixed
mod Laid
pub mod LayoutsLaws
pub mod ComponentLaws
-- Lemmas of lower crates, for those above.
pub use Rattle.cjc_bytes.proofs.Bools as BytesBools
pub use Rattle.cjc_bytes.proofs.BrokenRules as BytesBrokenRules
pub use Rattle.cjc_bytes.proofs.Gets as BytesGets
pub use Rattle.cjc_bytes.proofs.Lists as BytesLists
pub use Rattle.cjc_bytes.proofs.Numbers as BytesNumbers
pub use Rattle.cjc_world.proofs.Settled as WorldSettled
pub use Rattle.cjc_world.proofs.Unbroken as WorldUnbroken
pub use Rattle.cjc_components.proofs.ClassOrderDeclared as ClassOrderDeclared
pub use Rattle.cjc_components.proofs.ClassOrderStanding as ClassOrderStanding
pub use Rattle.cjc_components.proofs.SubsetCallees as SubsetCallees
pub use Rattle.cjc_components.proofs.TokensFacts as TokensFacts
pub use Rattle.cjc_components.proofs.TokensMeans as TokensMeans
pub use Rattle.cjc_components.proofs.TokensMeant as TokensMeant
pub use Rattle.cjc_check.proofs.FirstPlaces as CheckFirstPlaces
pub use Rattle.cjc_check.proofs.JumpsLaws.Apart as CheckApart
pub use Rattle.cjc_check.proofs.JumpsLaws.Lands as CheckLands
pub use Rattle.cjc_components.proofs.LayoutPlaces as LayoutPlaces
pub use Rattle.cjc_pool.proofs.PoolLaws.Keys as PoolKeys
pub use Rattle.cjc_int_package.proofs.ByModes as IntByModes
pub use Rattle.cjc_int_package.proofs.Room as IntRoom
