pub mod Answering
pub mod Arriving
pub mod Loading
pub mod Given
pub mod Joining
pub mod Marked
pub mod Edges
pub mod Exact
pub mod Normal
pub mod Searching
pub mod Least
pub mod TestsLaws
-- Lemmas of lower crates, for those above.
pub use Rattle.cjc_range.proofs.Order as RangeOrder
pub use Rattle.cjc_types.proofs.Least as TypesLeast
