pub mod OrElse
pub mod Places
pub mod InfoPlaces
pub mod Lengths
pub mod ByName
pub mod Alone
pub mod Fetched
pub mod Slots
mod ByPlace
mod Gathering
mod Exporting
mod Climbing
mod Stepping
mod Outer
-- Lemmas of lower crates, for those above.
pub use Rattle.cjc_check_index.proofs.CheckRulesFirsts as CheckRulesFirsts
pub use Rattle.cjc_check_index.proofs.ImportedLaws.Loops as CheckIndexLoops
