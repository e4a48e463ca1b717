pub mod Operands
pub mod Jumps
pub mod Known
pub mod KnownMethods
pub mod Nibbles
pub mod InfosLaws
pub mod DescribedLaws
pub mod Firsts
pub mod FirstPlaces
pub mod Codes
pub mod InCode
pub mod Made
pub mod Verified
pub mod InBodies
pub mod ListedMethods
-- Lemmas of lower crates, for those above.
pub use Rattle.cjc_methods.proofs.CheckApart as CheckApart
pub use Rattle.cjc_card_calls.proofs.CardLinkInfoPlaces as CardLinkInfoPlaces
