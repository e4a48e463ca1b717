pub mod Told
pub mod Towers
pub mod Agrees
pub mod Calls
pub mod Given
pub mod Once
pub mod Shown
pub mod Sent
pub mod Asked
pub mod Worlds
pub mod Filed
pub mod Ruled
pub mod Clean
pub mod Stood
pub mod Read
pub mod Selected
pub mod Keeping
pub mod Assigned
pub mod Rows
pub mod Tabled
pub mod Numbers
pub mod SlotNames
pub mod MapPlaces
pub mod SlotLaws
-- Lemmas of lower crates, for those above.
pub use Rattle.cjc_subset.proofs.RangeWords as RangeWords
pub use Rattle.cjc_order.proofs.ClassesLaws.Declared as ClassOrderDeclared
pub use Rattle.cjc_order.proofs.ClassesLaws.Standing as ClassOrderStanding
pub use Rattle.cjc_order.proofs.SupersLaws.Sets as ClassOrderSets
pub use Rattle.cjc_subset.proofs.Any as SubsetAny
pub use Rattle.cjc_subset.proofs.Callees as SubsetCallees
pub use Rattle.cjc_subset.proofs.Codes as SubsetCodes
pub use Rattle.cjc_subset.proofs.Fits as SubsetFits
pub use Rattle.cjc_tokens.proofs.Facts as TokensFacts
pub use Rattle.cjc_tokens.proofs.Means as TokensMeans
pub use Rattle.cjc_tokens.proofs.Sums as TokensSums
pub use Rattle.cjc_tokens.proofs.Supers as TokensSupers
pub use Rattle.cjc_tokens.proofs.TokenLaws.Meant as TokensMeant
