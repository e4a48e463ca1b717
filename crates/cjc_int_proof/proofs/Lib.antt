pub mod Walking
pub mod LongRuns
pub mod Counts
pub mod Sizes
pub mod Leads
pub mod Forms
pub mod Said
-- Lemmas of lower crates, for those above.
pub use Rattle.cjc_layout.proofs.Places as LayoutPlaces
